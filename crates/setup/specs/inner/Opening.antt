-- The fault of a run that can't open a file as a disk.
use Rattle.vote_store.specs.Refusal.{not_empty}
use Rattle.machine_files.specs.declared.file_disk.OpenFault.{OpenFault}
use Rattle.machine_files.specs.declared.file_disk.OpenFault.TheVariants.{NoMemory, Host, TooLong}
use Rattle.setup.specs.declared.fault.StopFault.{StopFault}

-- a file that is to be read
abbrev pub fault_of_old : OpenFault → StopFault
fault_of_old NoMemory = StopFault.NoMemory
fault_of_old Host = StopFault.Read
fault_of_old TooLong = StopFault.Read

-- a file that has to be empty: one that is too long isn't
abbrev pub fault_of_new : OpenFault → StopFault
fault_of_new NoMemory = StopFault.NoMemory
fault_of_new Host = StopFault.Write
fault_of_new TooLong = StopFault.Votes not_empty

-- a file that is to be written anew
abbrev pub fault_of_copy : OpenFault → StopFault
fault_of_copy NoMemory = StopFault.NoMemory
fault_of_copy Host = StopFault.Write
fault_of_copy TooLong = StopFault.Write
