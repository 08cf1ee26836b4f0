-- The number of each status, with which the program ends.
use Rattle.std.specs.Prelude.{ℕ}
use Rattle.kola_top.specs.declared.status.Status.{Status}
use Rattle.kola_top.specs.declared.status.Status.TheVariants as statuses

abbrev pub status_code : Status → ℕ
status_code statuses.Ok = 0
status_code statuses.Usage = 2
status_code statuses.Layout = 3
status_code statuses.Schema = 4
status_code statuses.Database = 5
status_code statuses.Query = 6
status_code statuses.Rules = 7
status_code statuses.Block = 8
status_code statuses.Visits = 9
status_code statuses.ReadFault = 10
status_code statuses.WriteFault = 11
status_code statuses.Memory = 12
status_code statuses.TooLong = 13
status_code statuses.TermTooLarge = 14
