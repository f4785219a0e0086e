-- When each answer of a reader comes, for a caller that knows the bytes.
use Rattle.std.proofs.Common.{◌≡◌, ℕ, List, Result, Ok, Err, ◌⊎◌, inl, inr, refl, sym, ap, ◌∙◌}
use Rattle.std.proofs.lemmas.Option.{same_Some}
use Rattle.serde_json.specs.Data.{Data}
use Rattle.dd_calls.specs.declared.steps.Script.{Script}
use Rattle.dd_script_read.specs.declared.fault.ScriptFault.{ScriptFault}
use Rattle.dd_script_read.specs.declared.fault.ScriptFault.TheVariants.{NotJson, NotScript, OutOfMemory}
use Rattle.dd_script_read.specs.Script.{script_of}
use Rattle.dd_script_read.specs.Reading.{IsJson, Gives, Reads}

-- bytes are the text of at most one tree
pub same_tree : (bytes : List ℕ) (d e : Data) → IsJson bytes d → IsJson bytes e → d ≡ e
same_tree bytes d e p q = same_Some d e (sym p.tree ∙ q.tree)

-- of the text of a tree the answer is the tree's
pub at_tree : (r : Result Script ScriptFault) (bytes : List ℕ) (d : Data) → IsJson bytes d → Reads r bytes
    → Gives (λ (s : Script). s) r (script_of d)
at_tree (Ok s) bytes d p h = ap script_of (same_tree bytes d h.0 p h.1) ∙ h.2
at_tree (Err NotScript) bytes d p h = ap script_of (same_tree bytes d h.0 p h.1) ∙ h.2
at_tree (Err NotJson) bytes d p h = h d p
at_tree (Err OutOfMemory) bytes d p h = tt

-- of bytes that are the text of no tree it is that cause alone
pub no_tree : (r : Result Script ScriptFault) (bytes : List ℕ) → ((d : Data) → IsJson bytes d → ⊥) → Reads r bytes
    → (r ≡ Err NotJson) ⊎ (r ≡ Err OutOfMemory)
no_tree (Ok s) bytes none h = absurd (none h.0 h.1)
no_tree (Err NotScript) bytes none h = absurd (none h.0 h.1)
no_tree (Err NotJson) bytes none h = inl refl
no_tree (Err OutOfMemory) bytes none h = inr refl
