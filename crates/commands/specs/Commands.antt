-- Which words are which command, and which bytes are a script line.
use Rattle.std.specs.Prelude.{ℕ, Bool, true, false, cond, ◌&&◌, nat_eq, nat_le, List, [], ◌∷◌, length, filter, map, codes, Option, Some, None}
use Rattle.std.specs.List.{slice_split, list_all}
use Rattle.std.specs.Option.{option_map}
use Rattle.std.specs.Cmp.Lexicographic.{pointwise}
use Rattle.commands.specs.declared.command.Command.{Command}
use Rattle.commands.specs.declared.command.Command.TheVariants.{Blank, Iface, Compile, Link, Run}
use Rattle.commands.specs.declared.command.Request.{Request}
use Rattle.commands.specs.declared.command.Request.TheVariants.{Line, Do, Sample}
use Rattle.commands.specs.Numbers.{number_up_to}

abbrev pub Bytes : Type 0
Bytes = List ℕ

abbrev pub is_word : Bytes → Bytes → Bool
is_word word name = pointwise nat_eq word name

-- Commands ----------------------------------------------------------------------------------

abbrev pub most_turns : ℕ
most_turns = 9223372036854775807

abbrev pub iface_of : List Bytes → Option Command
iface_of (source ∷ out ∷ []) = Some (Iface source out)
iface_of _ = None

abbrev pub compile_of : List Bytes → Option Command
compile_of (source ∷ out ∷ ifaces) = Some (Compile source out ifaces)
compile_of _ = None

abbrev pub link_of : List Bytes → Option Command
link_of (out ∷ first ∷ others) = Some (Link out (first ∷ others))
link_of _ = None

abbrev pub run_of : List Bytes → Option Command
run_of (program ∷ turns ∷ args) = option_map (λ n. Run program n args) (number_up_to most_turns turns)
run_of _ = None

-- the command of words: `iface SRC OUT`, `compile SRC OUT IFACE...`, `link OUT OBJ...`, `run PROG TURNS ARG...`
unfoldable pub command_of : List Bytes → Option Command
command_of [] = None
command_of (first ∷ rest) =
    cond (is_word first (codes "iface")) (iface_of rest)
    (cond (is_word first (codes "compile")) (compile_of rest)
    (cond (is_word first (codes "link")) (link_of rest)
    (cond (is_word first (codes "run")) (run_of rest) None)))

-- The program's words -----------------------------------------------------------------------

abbrev pub do_of : List Bytes → Option Request
do_of (script ∷ []) = Some (Do script)
do_of _ = None

-- a name for generated files: 1 to 255 bytes, each from 33 to 126
abbrev pub is_graphic : ℕ → Bool
is_graphic b = nat_le 33 b && nat_le b 126

abbrev pub is_prefix_name : Bytes → Bool
is_prefix_name name = (nat_le 1 (length name) && nat_le (length name) 255) && list_all is_graphic name

abbrev pub sample_with : Option ℕ → Option ℕ → Option ℕ → Bytes → Option Request
sample_with (Some seed) (Some modules) (Some functions) out = cond ((nat_le 1 modules && nat_le 1 functions) && is_prefix_name out) (Some (Sample seed modules functions out)) None
sample_with _ _ _ out = None

-- seed, modules, functions and the name of the output
abbrev pub sample_of : List Bytes → Option Request
sample_of (seed ∷ modules ∷ functions ∷ out ∷ []) = sample_with (number_up_to 2147483647 seed) (number_up_to 199 modules) (number_up_to 200 functions) out
sample_of _ = None

abbrev pub longest_word : ℕ
longest_word = 1048576

abbrev pub is_short_word : Bytes → Bool
is_short_word word = nat_le (length word) longest_word

abbrev pub request_with : List Bytes → Option Request
request_with [] = None
request_with (first ∷ rest) =
    cond (is_word first (codes "do")) (do_of rest)
    (cond (is_word first (codes "sample")) (sample_of rest) (option_map (λ c. Line c) (command_of (first ∷ rest))))

-- what the words of the program ask for; a word that is too long makes them no command
unfoldable pub request_of : List Bytes → Option Request
request_of words = cond (list_all is_short_word words) (request_with words) None

-- Lines -------------------------------------------------------------------------------------

-- the parts between the bytes of one value
abbrev pub parts_of : ℕ → Bytes → List Bytes
parts_of at bytes = slice_split (λ b. nat_eq b at) bytes

abbrev pub has_bytes : Bytes → Bool
has_bytes [] = false
has_bytes (b ∷ bs) = true

abbrev pub words_of : Bytes → List Bytes
words_of line = filter has_bytes (parts_of 32 line)

abbrev pub starts_hash : Bytes → Bool
starts_hash [] = false
starts_hash (b ∷ bs) = nat_eq b 35

-- spaces alone, or `#` first
abbrev pub is_comment : Bytes → Bool
is_comment line = cond (starts_hash line) true (list_all (λ x. nat_eq x 32) line)

abbrev pub is_plain : ℕ → Bool
is_plain b = nat_le 32 b && nat_le b 126

-- the command of a script line, and none where the bytes are no script line
unfoldable pub parsed : Bytes → Option Command
parsed line = cond (is_comment line) (Some Blank) (cond (list_all is_plain line) (command_of (words_of line)) None)

-- the lines of a script
unfoldable pub script_of : Bytes → List (Option Command)
script_of script = map parsed (parts_of 10 script)
