-- What a reader answers: the value, no script, or want of memory.
use Rattle.std.specs.Prelude.{◌≡◌, ℕ, List, Option, Some, None, Result, Ok, Err, IsUtf8}
use Rattle.serde_json.specs.Data.{Data}
use Rattle.serde_json.specs.Read.{read}
use Rattle.json.specs.declared.value.Value.{Value}
use Rattle.std.specs.declared.alloc.Global.{Global}
use Rattle.dd_calls.specs.declared.steps.Script.{Script}
use Rattle.dd_script_read.specs.declared.fault.ScriptFault.{ScriptFault}
use Rattle.dd_script_read.specs.declared.fault.ScriptFault.TheVariants.{NotJson, NotScript, OutOfMemory}
use Rattle.dd_script_read.specs.Script.{script_of}
use Rattle.dd_script_read.specs.Tree.{tree_data}

-- the bytes are the text of a tree
pub record IsJson (bytes : List ℕ) (d : Data) : Type 0 where
  pub text : IsUtf8 bytes
  pub tree : read bytes ≡ Some d

-- the bytes are the text of a tree that is this script
abbrev pub IsScript : List ℕ → Script → Type 0
IsScript b s = (d : Data) × IsJson b d × (script_of d ≡ Some s)

-- the bytes have no JSON reading, or a tree that is no script
abbrev pub IsNoScript : List ℕ → Type 0
IsNoScript b = (d : Data) → IsJson b d → script_of d ≡ None

-- why a part of a tree wasn't read
abbrev pub Refuses : {A : Type 0} → ScriptFault → Option A → Type 0
Refuses NotJson read = ⊥
Refuses NotScript read = read ≡ None
Refuses OutOfMemory read = Unit {0}

-- a part of a tree, seen by view, is what its form gives
abbrev pub Gives : {A B : Type 0} → (A → B) → Result A ScriptFault → Option B → Type 0
Gives view (Ok x) read = read ≡ Some (view x)
Gives view (Err e) read = Refuses e read

-- the bytes are the text of the value's tree, or of none; want of memory says nothing
abbrev pub ReadsTree : Result (Value Global) ScriptFault → List ℕ → Type 0
ReadsTree (Ok v) bytes = IsJson bytes (tree_data v)
ReadsTree (Err NotJson) bytes = (d : Data) → IsJson bytes d → ⊥
ReadsTree (Err NotScript) bytes = ⊥
ReadsTree (Err OutOfMemory) bytes = Unit {0}

-- the bytes are a script, or a tree that is none, or no tree; want of memory says nothing
abbrev pub Reads : Result Script ScriptFault → List ℕ → Type 0
Reads (Ok s) bytes = IsScript bytes s
Reads (Err NotScript) bytes = (d : Data) × IsJson bytes d × (script_of d ≡ None)
Reads (Err NotJson) bytes = (d : Data) → IsJson bytes d → ⊥
Reads (Err OutOfMemory) bytes = Unit {0}
