-- The texts that are written: of answers, of scripts and of counts. Each is one line.
use Rattle.std.specs.Prelude.{ℕ, List, [], ◌∷◌, ◌++◌, codes}
use Rattle.std.specs.List.{flat_map}
use Rattle.serde_json.specs.Data.{Data, object, member, no_members}
use Rattle.serde_json.specs.Written.{compact_text}
use Rattle.dd_calls.specs.declared.answers.Answer.{Answer}
use Rattle.dd_calls.specs.declared.steps.Script.{Script}
use Rattle.dd_calls.specs.declared.counting.Counts.{Counts}
use Rattle.dd_script_write.specs.Answers.{count, answer_tree}
use Rattle.dd_script_write.specs.Spelling.{spelling}

-- the answer's tree with no space in it, and a line feed
unfoldable pub line : Answer → List ℕ
line a = compact_text (answer_tree a) ++ 10 ∷ []

-- the lines of answers, one after the other
unfoldable pub text : List Answer → List ℕ
text as_they_come = flat_map line as_they_come

-- a script's own tree with no space in it, and a line feed
unfoldable pub script_line : Script → List ℕ
script_line s = compact_text (spelling s) ++ 10 ∷ []

-- the counts of a run, each under its name
unfoldable pub counts_tree : Counts → Data
counts_tree c =
    object
    (member (codes "acquired") (count c.acquired)
    (member (codes "coalesced") (count c.coalesced)
    (member (codes "entries") (count c.entries)
    (member (codes "frames") (count c.frames)
    (member (codes "moves") (count c.moves)
    (member (codes "rects") (count c.rects)
    (member (codes "refused") (count c.refused)
    (member (codes "steps") (count c.steps)
    no_members))))))))

-- that tree with no space in it, and a line feed
unfoldable pub counts_line : Counts → List ℕ
counts_line c = compact_text (counts_tree c) ++ 10 ∷ []
