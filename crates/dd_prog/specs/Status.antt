-- How a status is told: by a number, and by a line.
use Rattle.std.specs.Prelude.{ℕ, List, [], ◌∷◌, ◌++◌, codes}
use Rattle.dd_prog.specs.declared.status.Status.{Status}
use Rattle.dd_prog.specs.declared.status.Status.TheVariants.{Done, OutOfMemory, BadWords, TooLong, BadScript, BadRecord, ReadFault, WriteFault}

-- the number that the program ends with
abbrev pub number_of : Status → ℕ
number_of Done = 0
number_of OutOfMemory = 1
number_of BadWords = 2
number_of TooLong = 3
number_of BadScript = 4
number_of BadRecord = 5
number_of ReadFault = 6
number_of WriteFault = 7

-- what is printed of a status: its name and a line feed, and of Done nothing
abbrev pub line_of : Status → List ℕ
line_of Done = []
line_of OutOfMemory = codes "OutOfMemory" ++ 10 ∷ []
line_of BadWords = codes "BadWords" ++ 10 ∷ []
line_of TooLong = codes "TooLong" ++ 10 ∷ []
line_of BadScript = codes "BadScript" ++ 10 ∷ []
line_of BadRecord = codes "BadRecord" ++ 10 ∷ []
line_of ReadFault = codes "ReadFault" ++ 10 ∷ []
line_of WriteFault = codes "WriteFault" ++ 10 ∷ []
