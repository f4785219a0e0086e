-- Why a program has no words, and how it then ends.
use Rattle.std.specs.declared.io.ErrorKind.{ErrorKind}
use Rattle.std.specs.declared.io.ErrorKind.TheVariants as kinds
use Rattle.dd_prog.specs.declared.arguments.WordsFault.{WordsFault}
use Rattle.dd_prog.specs.declared.arguments.WordsFault.TheVariants.{NotText, OutOfMemory}
use Rattle.dd_prog.specs.declared.status.Status.{Status}
use Rattle.dd_prog.specs.declared.status.Status.TheVariants as status

-- want of memory is told as such, and each other kind is a word that is no text
abbrev pub words_fault : ErrorKind → WordsFault
words_fault kinds.OutOfMemory = OutOfMemory
words_fault _ = NotText

abbrev pub status_of_words : WordsFault → Status
status_of_words NotText = status.BadWords
status_of_words OutOfMemory = status.OutOfMemory
