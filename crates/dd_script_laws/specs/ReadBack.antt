-- What is written is read back: a script's own tree, its line, and its text without a line feed.
use Rattle.std.specs.Prelude.{◌≡◌, Some, IsTrue}
use Rattle.serde_json.specs.Written.{compact_text}
use Rattle.dd_calls.specs.declared.steps.Script.{Script}
use Rattle.dd_script_read.specs.Script.{script_of}
use Rattle.dd_script_read.specs.Readable.{is_readable}
use Rattle.dd_script_read.specs.Reading.{IsScript}
use Rattle.dd_script_write.specs.Spelling.{spelling}
use Rattle.dd_script_write.specs.Texts.{script_line}

-- a script's own tree is read as that script
abbrev pub IsReadBack : Script → Type 0
IsReadBack s = script_of (spelling s) ≡ Some s

-- the line of each readable script is the text of that very script
abbrev pub ScriptsReadBack : Type 0
ScriptsReadBack = (s : Script) → IsTrue (is_readable s) → IsScript (script_line s) s

-- and so is what the line has before its line feed
abbrev pub ScriptsReadBackUnended : Type 0
ScriptsReadBackUnended = (s : Script) → IsTrue (is_readable s) → IsScript (compact_text (spelling s)) s
