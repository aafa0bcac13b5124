-- Worked rows: where statements stand in one list, their pieces, names, and tokens.
use Rattle.std.specs.Prelude.{◌≡◌, ℕ, List, [], ◌∷◌, codes, pos, refl, Bool, true, ◌&&◌, not}
use Rattle.std.specs.List.{list_all, list_any}
use Rattle.c_tree.specs.declared.tree.CExpr.{CExpr}
use Rattle.c_tree.specs.declared.tree.CExpr.TheVariants as expr
use Rattle.c_tree.specs.declared.tree.CAtom.TheVariants as atom
use Rattle.c_tree.specs.declared.tree.CStmt.{CStmt}
use Rattle.c_tree.specs.declared.tree.CStmt.TheVariants as stmt
use Rattle.c_tree.specs.declared.pieces.Piece.TheVariants as piece
use Rattle.c_tree.specs.Code.{Code, done, assign, return, test, loop, ended, goto, catch, protect}
use Rattle.c_tree.specs.Layout.{block, flat, code_of}
use Rattle.c_tree.specs.Pieces.{pieces}
use Rattle.c_tree.specs.Lexical.{Word, Mark, Bad, lexeme, tokens}
use Rattle.c_tree.specs.Names.{function_name, unmangled, is_function_name, is_module_function, is_entry_name, is_maker_name, is_initializer_name, is_global_name, is_symbol_name, is_local_name, is_label_name, is_end_label_name, is_variable_name, is_target_name}

-- Statements --------------------------------------------------------------------------------

abbrev pub x : List ℕ
x = codes "x0"

abbrev pub number : ℕ → CExpr
number n = expr.Atom (atom.Int (pos n))

-- `L0: for (;;) { if (x0) { x0 = 1; } else { if (1) { } else { return 2; } } return 3; }`
abbrev pub nested : Code
nested =
    loop (codes "L0") (test (expr.Atom (atom.Name x)) (assign x (number 1) done) (test (number 1) done (return (number 2) done) done) (return (number 3) done)) done

abbrev pub nested_list : List CStmt
nested_list =
    stmt.Loop (codes "L0") (block 1 6)
    ∷ stmt.If (expr.Atom (atom.Name x)) (block 2 3) (block 3 5)
    ∷ stmt.Assign x (number 1)
    ∷ stmt.If (number 1) (block 4 4) (block 4 5)
    ∷ stmt.Return (number 2)
    ∷ stmt.Return (number 3)
    ∷ []

a_statement_stands_before_its_blocks : flat nested 0 [] ≡ nested_list
a_statement_stands_before_its_blocks = refl

ranges_give_the_code_back : code_of nested_list (block 0 6) ≡ nested
ranges_give_the_code_back = refl

a_range_that_points_back_is_harmless : code_of (stmt.Loop (codes "L0") (block 0 1) ∷ []) (block 0 1) ≡ loop (codes "L0") done done
a_range_that_points_back_is_harmless = refl

blocks_begin_and_end_as_they_are_written :
    pieces nested []
    ≡ piece.Loop (codes "L0") ∷ piece.If (expr.Atom (atom.Name x)) ∷ piece.Assign x (number 1) ∷ piece.Else ∷ piece.If (number 1) ∷ piece.Else ∷ piece.Return (number 2) ∷ piece.End ∷ piece.End ∷ piece.Return (number 3) ∷ piece.End ∷ []
blocks_begin_and_end_as_they_are_written = refl

-- `{ goto E0; } E0:; BGL_PROTECT { BGL_CATCH(x1, x2) { return 1; } } { x0 = 2; } return 3;`
abbrev pub leaving : Code
leaving =
    ended (goto (codes "E0") done) (codes "E0")
    (protect (catch (codes "x1") (codes "x2") (return (number 1) done) done) (assign x (number 2) done) (return (number 3) done))

abbrev pub leaving_list : List CStmt
leaving_list =
    stmt.Ended (block 1 2) (codes "E0")
    ∷ stmt.Goto (codes "E0")
    ∷ stmt.Protect (block 3 5) (block 5 6)
    ∷ stmt.Catch (codes "x1") (codes "x2") (block 4 5)
    ∷ stmt.Return (number 1)
    ∷ stmt.Assign x (number 2)
    ∷ stmt.Return (number 3)
    ∷ []

so_does_one_that_is_left : flat leaving 0 [] ≡ leaving_list
so_does_one_that_is_left = refl

its_ranges_give_it_back : code_of leaving_list (block 0 7) ≡ leaving
its_ranges_give_it_back = refl

a_label_and_a_cleanup_stand_where_blocks_end :
    pieces leaving []
    ≡ piece.Begin ∷ piece.Goto (codes "E0") ∷ piece.Ended (codes "E0") ∷ piece.Protect ∷ piece.Catch (codes "x1") (codes "x2") ∷ piece.Return (number 1) ∷ piece.End ∷ piece.Cleanup ∷ piece.Assign x (number 2) ∷ piece.End ∷ piece.Return (number 3) ∷ []
a_label_and_a_cleanup_stand_where_blocks_end = refl

-- Names -------------------------------------------------------------------------------------

-- words of a kind, and words that are one byte off
abbrev pub tells : (List ℕ → Bool) → List (List ℕ) → List (List ℕ) → Bool
tells is_kind of_it off = list_all is_kind of_it && not (list_any is_kind off)

a_name_is_spelled_byte_by_byte : function_name (codes "a-b") (codes "set!") ≡ codes "f_a_2db__set_21"
unfolding function_name
a_name_is_spelled_byte_by_byte = refl

functions :
    tells is_module_function
    (codes "f_a__b" ∷ codes "f_a_2db__set_21" ∷ codes "f_a__12" ∷ codes "f_a__0" ∷ codes "f_a___2d" ∷ [])
    (codes "f_a_b" ∷ codes "f__b" ∷ codes "f_a__" ∷ codes "f_a__01" ∷ codes "f_1__b" ∷ codes "f_a_2Db__c" ∷ codes "f_a_61__b" ∷ codes "fa__b" ∷ codes "g_a__b" ∷ codes "f_a__b_" ∷ codes "f_a__b__c" ∷ codes "f_a__f_a__b" ∷ codes "f_a__1a" ∷ [])
    ≡ true
unfolding is_module_function unmangled
functions = refl

entries : tells is_entry_name (codes "e_a__b" ∷ codes "e_a__7" ∷ []) (codes "e_a_b" ∷ codes "e_a__07" ∷ codes "f_a__b" ∷ []) ≡ true
unfolding is_entry_name unmangled
entries = refl

makers : tells is_maker_name (codes "c_a" ∷ codes "c_a_2db" ∷ codes "c_a_5f" ∷ []) (codes "c_" ∷ codes "ca" ∷ codes "c_a__b" ∷ codes "c_1" ∷ []) ≡ true
unfolding is_maker_name unmangled
makers = refl

initializers : tells is_initializer_name (codes "i_a" ∷ codes "i__2a" ∷ []) (codes "i_" ∷ codes "ia" ∷ codes "i_a_2" ∷ codes "i_a_zz" ∷ []) ≡ true
unfolding is_initializer_name unmangled
initializers = refl

main_is_a_function : tells is_function_name (codes "main" ∷ codes "c_a" ∷ codes "i_a" ∷ codes "f_a__b" ∷ codes "e_a__b" ∷ []) (codes "mains" ∷ codes "v_a__b" ∷ codes "bgl_call" ∷ []) ≡ true
unfolding is_function_name is_module_function is_entry_name is_maker_name is_initializer_name unmangled
main_is_a_function = refl

globals :
    tells is_global_name
    (codes "v_a__b" ∷ codes "u_a__b" ∷ codes "p_a__b" ∷ codes "q_a__0" ∷ codes "q_a__12" ∷ [])
    (codes "v_a__0" ∷ codes "u_a__1" ∷ codes "p_a__1" ∷ codes "q_a__b" ∷ codes "q_a__00" ∷ codes "v_a" ∷ codes "w_a__b" ∷ [])
    ≡ true
unfolding is_global_name unmangled
globals = refl

symbols : tells is_symbol_name (codes "s_a" ∷ codes "s__2b" ∷ []) (codes "s_" ∷ codes "s_1" ∷ codes "s__2b1" ∷ codes "s_a__b" ∷ codes "t_a" ∷ []) ≡ true
unfolding is_symbol_name unmangled
symbols = refl

locals : tells is_local_name (codes "x0" ∷ codes "x10" ∷ []) (codes "x" ∷ codes "x00" ∷ codes "x1a" ∷ codes "y0" ∷ []) ≡ true
unfolding is_local_name
locals = refl

labels : tells is_label_name (codes "L0" ∷ codes "L7" ∷ []) (codes "L" ∷ codes "L07" ∷ codes "E0" ∷ []) ≡ true
unfolding is_label_name
labels = refl

end_labels : tells is_end_label_name (codes "E0" ∷ []) (codes "E" ∷ codes "E01" ∷ codes "L0" ∷ []) ≡ true
unfolding is_end_label_name
end_labels = refl

variables : tells is_variable_name (codes "x0" ∷ codes "v_a__b" ∷ []) (codes "s_a" ∷ codes "f_a__b" ∷ codes "L0" ∷ []) ≡ true
unfolding is_variable_name is_local_name is_global_name unmangled
variables = refl

targets : tells is_target_name (codes "L0" ∷ codes "E0" ∷ []) (codes "x0" ∷ codes "M0" ∷ []) ≡ true
unfolding is_target_name is_label_name is_end_label_name
targets = refl

-- Tokens ------------------------------------------------------------------------------------

a_comment_ends_at_the_first_end : tokens (codes "a /* /* b */ c */") ≡ Word (codes "a") ∷ Word (codes "c") ∷ Bad ∷ Bad ∷ []
unfolding lexeme
a_comment_ends_at_the_first_end = refl

a_star_and_slash_that_share_the_opening_one_end_nothing : tokens (codes "/*/ a */ b") ≡ Word (codes "b") ∷ []
unfolding lexeme
a_star_and_slash_that_share_the_opening_one_end_nothing = refl

a_comment_that_does_not_end_begins_no_token : tokens (codes "a /*") ≡ Word (codes "a") ∷ Bad ∷ Bad ∷ []
unfolding lexeme
a_comment_that_does_not_end_begins_no_token = refl

a_minus_sign_is_of_the_word_behind_it : tokens (codes "x0=-12;- 1") ≡ Word (codes "x0") ∷ Mark 61 ∷ Word (codes "-12") ∷ Mark 59 ∷ Bad ∷ Word (codes "1") ∷ []
unfolding lexeme
a_minus_sign_is_of_the_word_behind_it = refl
