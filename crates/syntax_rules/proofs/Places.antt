-- The place of a datum.
use Rattle.std.proofs.Common.{◌≡◌, rules}
use Rattle.scheme_data.specs.Data.{place_of}
use Rattle.scheme_data.specs.Forms.{form, form_place}
use Rattle.scheme_data.specs.declared.datum.Datum.{Datum}
use Rattle.scheme_data.specs.declared.datum.Datum as data_of

pub same_place : (d : Datum) → place_of d ≡ form_place (form d)
same_place d = search (rules, data_of.the_lemmas)
