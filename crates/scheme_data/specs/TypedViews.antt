-- What the code's typed names stand for.
use Rattle.std.specs.Option.{option_copied}
use Rattle.scheme_data.specs.TypedNames.{Typed, Split}
use Rattle.scheme_data.specs.declared.typing.TypedName.{TypedName}
use Rattle.scheme_data.specs.declared.typing.Split.{Split as Pieces}

abbrev pub split_view : Pieces → Split
split_view s = record { before = s.before.now; behind = s.behind.now }

abbrev pub typed_view : TypedName → Typed
typed_view t = record { name = t.name.now; ty = option_copied t.ty }
