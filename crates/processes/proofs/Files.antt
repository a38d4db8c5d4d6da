-- Files of both versions.
use Rattle.std.proofs.Common.{arith}
use Rattle.entry_log.specs.Format as format
use Rattle.vote_store.specs.Sequence as sequence
use Rattle.processes.specs.Files.{EmptyFilesShowNone}

pub empty_files : EmptyFilesShowNone
unfolding sequence.file_votes format.bytes_in
empty_files = grind arith
