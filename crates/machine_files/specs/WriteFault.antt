-- What a scorer is told of a file that can't be written.
use Rattle.std.specs.Prelude.{ℕ, List, [], codes}
use Rattle.machine_files.specs.declared.write_fault.{Name.Name, Cause.Cause}
use Rattle.machine_files.specs.declared.write_fault.Name.TheVariants.{Own, Unfinished, New}
use Rattle.machine_files.specs.declared.write_fault.Cause.TheVariants.{InUse, NoSpace, Limit, NoLock, NotAllowed, ReadOnly, NoFolder, LongName, Link, NotAFile, There, Sheet, Key, Votes, Other, Both, Itself, Lost, Device, NoMemory, System}

-- what stands behind the file's own name
abbrev pub ending_of : Name → List ℕ
ending_of Own = []
ending_of Unfinished = codes ".unfinished"
ending_of New = codes ".new"

abbrev pub words_of : Cause → List ℕ
words_of InUse = codes "in use by another desk"
words_of NoSpace = codes "no space"
words_of Limit = codes "larger than this user's files may be (ulimit -f)"
words_of NoLock = codes "no lock on this file system"
words_of NotAllowed = codes "not allowed"
words_of ReadOnly = codes "this file system is read-only"
words_of NoFolder = codes "no such folder"
words_of LongName = codes "the name is too long"
words_of Link = codes "is a link"
words_of NotAFile = codes "isn't a plain file"
words_of There = codes "is there already"
words_of Sheet = codes "is the sheet"
words_of Key = codes "is the key"
words_of Votes = codes "is a votes file"
words_of Other = codes "belongs to something else: choose another name"
words_of Both = codes "is another file of this board"
words_of Itself = codes "is the votes file itself, and no copy of it"
words_of Lost = codes "isn't as it was left"
words_of Device = codes "the disk fails"
words_of NoMemory = codes "no memory"
words_of System = codes "the system refuses it"
