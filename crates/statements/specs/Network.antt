-- What the network's statement is made with.
--   network_sheet    the dated sheet of the network's own price records, contribution 15, every
--                    weight 100
--   empty_tables     16 places for operators and 64 for objects
use Rattle.std.specs.Prelude.{replicate}
use Rattle.tariff.specs.Meaning.{Meaning}
use Rattle.tariff.specs.declared.kinds.Kind.TheVariants.{Covered}
use Rattle.sheet_parts.specs.declared.given.Terms.{Terms}
use Rattle.sheets.specs.DatedSheets.{dated}
use Rattle.sheets.specs.Network.{network_records}
use Rattle.book.specs.Zone.{Tables}
use Rattle.book.specs.declared.entries.RollEntry.{RollEntry}
use Rattle.book.specs.declared.entries.RegisterEntry.{RegisterEntry}

abbrev pub network_terms : Terms
network_terms = record { contribution = 15; weights = replicate 41 100 }

abbrev pub network_sheet : Meaning
network_sheet = dated network_records network_terms

abbrev pub no_operator : RollEntry
no_operator = record { operator = 0; tranches = replicate 41 0; balance = 0 }

abbrev pub no_object : RegisterEntry
no_object = record { object = 0; kind = Covered; installed = 0; dwellings = 0 }

abbrev pub empty_tables : Tables
empty_tables = record { roll = replicate 16 no_operator; register = replicate 64 no_object }
