-- The top call.
use Rattle.std.proofs.Common.{◌≡◌, ◌≤◌, ◌<◌, List, [], ◌∷◌, map, length, Option, Some, Result, Ok, refl, ap, sym, ◌∙◌, subst}
use Rattle.scheme_data.specs.declared.datum.LimitKind.TheVariants.{Bytes as TheBytes}
use Rattle.base_io.specs.Contents.{Bytes, Contents}
use Rattle.commands.specs.Commands.{parsed, parts_of, script_of, request_of}
use Rattle.commands.specs.declared.command.Command.{Command}
use Rattle.commands.specs.declared.command.Request.TheVariants.{Line, Do}
use Rattle.session.specs.declared.errors.ReadErr.{ReadErr}
use Rattle.session.specs.declared.answer.Answer.{Answer}
use Rattle.session.specs.declared.answer.Answer.TheVariants as answer
use Rattle.session.specs.declared.answer.Refusal.TheVariants.{Limit}
use Rattle.session.specs.Outside.{ReadOne}
use Rattle.session.specs.Scripts.{ScriptDid, NamedDid, ProgramDid, one_line, named, long_script, script, longest}

abbrev pub NamedTold : Bytes → Option Contents → Option Bytes → Answer → Option Contents → Option Bytes → Type 0
NamedTold name contents written a contents' written' =
    (m : Contents) (source base : Bytes) → contents ≡ Some m → written ≡ Some base → NamedDid name m source base a contents' (Some source) written'

at_told : (name : Bytes) (m : Contents) (contents : Option Contents) (r : Result Bytes ReadErr) → contents ≡ Some m → ReadOne contents name r → ReadOne (Some m) name r
at_told name m contents r is told = subst (λ (x : Option Contents). ReadOne x name r) is told

pub named_long : (name bytes text : Bytes) (contents : Option Contents) (written : Option Bytes) (contents' : Option Contents) → ReadOne contents name (Ok bytes) → text ≡ bytes → contents' ≡ contents → longest < length text → NamedTold name contents written (answer.Refused 0 (Limit TheBytes)) contents' written
named_long name bytes text contents written contents' told is same long = λ m source base c_is w_is.
    long_script bytes (at_told name m contents (Ok bytes) c_is told) (subst (λ (b : Bytes). longest < length b) is long) refl (record { files_are = same ∙ c_is; left_is = refl; written_is = w_is })

pub named_done : (name bytes text text' : Bytes) (lines : List Bytes) (contents : Option Contents) (written : Option Bytes) (contents' contents'' : Option Contents) (written'' : Option Bytes) (a : Answer) → ReadOne contents name (Ok bytes) → text ≡ bytes → text' ≡ bytes → contents' ≡ contents → length text ≤ longest → lines ≡ parts_of 10 text' → ((m : Contents) (source base : Bytes) → contents' ≡ Some m → written ≡ Some base → ScriptDid (map parsed lines) m source base a contents'' (Some source) written'') → NamedTold name contents written a contents'' written''
unfolding script_of
named_done name bytes text text' lines contents written contents' contents'' written'' a told is is' same few lines_are did = λ m source base c_is w_is.
    let done = did m source base (same ∙ c_is) w_is in
    let of_bytes : lines ≡ parts_of 10 bytes = lines_are ∙ ap (λ (b : Bytes). parts_of 10 b) is' in
    script bytes (at_told name m contents (Ok bytes) c_is told) (subst (λ (b : Bytes). length b ≤ longest) is few) (subst (λ (l : List Bytes). ScriptDid (map parsed l) m source base a contents'' (Some source) written'') of_bytes done)

-- The words ---------------------------------------------------------------------------------

-- words that are a line by themselves
pub line_told : {words : List Bytes} {m : Contents} {source base : Bytes} {a b : Answer} {contents : Option Contents} {left written : Option Bytes} (c : Command) → request_of words ≡ Some (Line c) → a ≡ b → left ≡ Some source → ScriptDid (Some c ∷ []) m source base b contents (Some source) written → ProgramDid words m source base a contents left written
line_told {words} {m} {source} {base} {a} {b} {contents} {left} {written} c asked a_is left_is did =
    one_line c asked (subst (λ (x : Answer). ScriptDid (Some c ∷ []) m source base x contents left written) (sym a_is) (subst (λ (l : Option Bytes). ScriptDid (Some c ∷ []) m source base b contents l written) (sym left_is) did))

-- words that name a script
pub script_told : {words : List Bytes} {m : Contents} {source base : Bytes} {a b : Answer} {contents : Option Contents} {left written : Option Bytes} (name : Bytes) → request_of words ≡ Some (Do name) → a ≡ b → left ≡ Some source → NamedDid name m source base b contents (Some source) written → ProgramDid words m source base a contents left written
script_told {words} {m} {source} {base} {a} {b} {contents} {left} {written} name asked a_is left_is did =
    named name asked (subst (λ (x : Answer). NamedDid name m source base x contents left written) (sym a_is) (subst (λ (l : Option Bytes). NamedDid name m source base b contents l written) (sym left_is) did))
