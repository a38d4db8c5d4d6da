-- What a log of a file's calls says.
use Rattle.std.specs.Prelude.{ℕ, List, [], ◌∷◌, ◌++◌}
use Rattle.machine_files.specs.declared.call_log.{AskedLog.AskedLog, ByteLog.ByteLog, ByteLog.Empty, ByteLog.More'}
use Rattle.machine_files.specs.declared.call_log.AskedLog.TheVariants as asks
use Rattle.machine_files.specs.declared.call_log.CallLog.{CallLog}
use Rattle.machine_files.specs.declared.call_log.CallLog as log
use Rattle.machine_files.specs.Calls.{Asked, Call, CutTo, Done, Failed, ReadFront, Sync, TakeName, WriteAt}

abbrev pub bytes_in : ByteLog → List ℕ
bytes_in Empty = []
bytes_in (More' marker before byte) = bytes_in before ++ byte.value ∷ []

abbrev pub asked_in : AskedLog → Asked
asked_in (asks.WriteAt at bytes) = WriteAt at.value (bytes_in bytes.value)
asked_in (asks.CutTo len) = CutTo len.value
asked_in asks.Sync = Sync
asked_in asks.TakeName = TakeName
asked_in (asks.ReadFront bytes) = ReadFront (bytes_in bytes.value)

abbrev pub calls_in : CallLog → List Call
calls_in log.Empty = []
calls_in (log.Done' marker before asked) = calls_in before ++ Done (asked_in asked.value) ∷ []
calls_in (log.Failed' marker before asked) = calls_in before ++ Failed (asked_in asked.value) ∷ []
