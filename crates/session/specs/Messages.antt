-- What the program says of its answer.
use Rattle.std.specs.Prelude.{ℕ, ◌-◌, [], ◌++◌, length, slice_get, codes, Option, Some, None}
use Rattle.base_io.specs.Contents.{Bytes}
use Rattle.base_io.specs.declared.end.End.{End}
use Rattle.base_io.specs.declared.end.End.TheVariants.{Ended, Raised, Spent, Fault}
use Rattle.c_meaning.specs.Breaches.{cause_name}
use Rattle.scheme_data.specs.Decimal.{decimal_text}
use Rattle.scheme_data.specs.declared.datum.Place.{Place}
use Rattle.scheme_data.specs.declared.datum.LimitKind.TheVariants.{Bytes as TheBytes, Depth, Expansions, Filled}
use Rattle.session.specs.declared.answer.Answer.{Answer}
use Rattle.session.specs.declared.answer.Answer.TheVariants as answer
use Rattle.session.specs.declared.answer.Refusal.{Refusal}
use Rattle.session.specs.declared.answer.Refusal.TheVariants.{NotBuilt, Syntax, Limit, Header, Duplicate, BadRules, NoRule, Form, NotC, BadC, MissingModule, MissingName}

-- The status --------------------------------------------------------------------------------

abbrev pub end_status : End → ℕ
end_status (Ended status) = status
end_status (Raised code text) = 250
end_status Spent = 251
end_status (Fault kind) = 252

abbrev pub status_of_last : Option End → ℕ
status_of_last None = 0
status_of_last (Some end) = end_status end

-- the last run decides; where none was, 0
abbrev pub status_of : Answer → ℕ
status_of (answer.Done ends) = status_of_last (slice_get ends (length ends - 1))
status_of answer.Usage = 240
status_of (answer.BadLine number) = 241
status_of (answer.NoFile name) = 242
status_of (answer.FileFault name) = 243
status_of answer.ReadFault = 244
status_of answer.InputLong = 245
status_of answer.WriteFault = 246
status_of (answer.Refused number refusal) = 247
status_of answer.Memory = 248

-- The message -------------------------------------------------------------------------------

abbrev pub line_words : ℕ → Bytes
line_words number = codes "line " ++ decimal_text number

abbrev pub place_words : Place → Bytes
place_words at = decimal_text at.line ++ codes ":" ++ decimal_text at.column

abbrev pub refusal_words : Refusal → Bytes
refusal_words NotBuilt = codes ": refusal 0"
refusal_words (Syntax at) = codes ": refusal 1 " ++ place_words at
refusal_words (Limit TheBytes) = codes ": refusal 2 Bytes"
refusal_words (Limit Depth) = codes ": refusal 2 Depth"
refusal_words (Limit Expansions) = codes ": refusal 2 Expansions"
refusal_words (Limit Filled) = codes ": refusal 2 Filled"
refusal_words (Header at) = codes ": refusal 3 " ++ place_words at
refusal_words (Duplicate name) = codes ": refusal 4 " ++ name
refusal_words (BadRules at) = codes ": refusal 6 " ++ place_words at
refusal_words (NoRule at) = codes ": refusal 7 " ++ place_words at
refusal_words (Form at) = codes ": refusal 8 " ++ place_words at
refusal_words (NotC at) = codes ": refusal 14 " ++ place_words at
refusal_words (BadC name cause) = codes ": refusal 15 " ++ name ++ codes " " ++ cause_name cause
refusal_words (MissingModule n m) = codes ": refusal 17 " ++ decimal_text n ++ codes " " ++ m
refusal_words (MissingName n m name) = codes ": refusal 18 " ++ decimal_text n ++ codes " " ++ m ++ codes " " ++ name

-- one line without its end, and nothing where all was done
abbrev pub message_of : Answer → Bytes
message_of (answer.Done ends) = []
message_of answer.Usage = codes "usage"
message_of (answer.BadLine number) = line_words number ++ codes ": not a command"
message_of (answer.NoFile name) = codes "no file " ++ name
message_of (answer.FileFault name) = codes "file fault " ++ name
message_of answer.ReadFault = codes "read fault"
message_of answer.InputLong = codes "input too long"
message_of answer.WriteFault = codes "write fault"
message_of (answer.Refused number refusal) = line_words number ++ refusal_words refusal
message_of answer.Memory = codes "memory"
