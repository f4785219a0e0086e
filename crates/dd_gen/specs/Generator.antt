-- The script that is made from a number, its seed: each draw in its order.
use Rattle.std.specs.Prelude.{ℕ, zero, suc, ◌+◌, ◌*◌, ◌%◌, ◌==◌, pos, true, if◌then◌else◌, List, [], ◌∷◌, ◌++◌}
use Rattle.dd_geom.specs.declared.rect.Point.{Point}
use Rattle.dd_geom.specs.declared.rect.Rect.{Rect}
use Rattle.dd_modes.specs.declared.modes.Mode.{Mode}
use Rattle.dd_modes.specs.declared.modes.Rotation.TheVariants.{Identity}
use Rattle.dd_ops.specs.declared.operations.Op.{Op}
use Rattle.dd_ops.specs.declared.operations.Op.TheVariants.{Fill, Scroll}
use Rattle.dd_log.specs.declared.events.Draw.TheVariants.{Present, Pointer}
use Rattle.dd_calls.specs.declared.steps.ClientCall.{ClientCall}
use Rattle.dd_calls.specs.declared.steps.ClientCall.TheVariants.{Duplicate, Close, Acquire, Release}
use Rattle.dd_calls.specs.declared.steps.Step.{Step}
use Rattle.dd_calls.specs.declared.steps.Step.TheVariants.{Draw, Call}
use Rattle.dd_calls.specs.declared.steps.Script.{Script}
use Rattle.dd_gen.specs.Making.{Making, give, ◌>>=◌, draw}

-- the rectangle of a width and a height whose first point is (x, y)
abbrev pub rect_at : ℕ → ℕ → ℕ → ℕ → Rect
rect_at x y width height = record { left = pos x; top = pos y; right = pos (x + width); bottom = pos (y + height) }

-- a fill of 20 to 119 by 10 to 79 points
unfoldable pub fill : Making Op
fill = do
  x ← draw 1800
  y ← draw 1000
  width ← draw 100
  height ← draw 70
  high ← draw 65536
  low ← draw 256
  give (Fill (rect_at x y (20 + width) (10 + height)) (256 * high + low))

-- so many fills, in order
unfoldable pub fills : ℕ → Making (List Op)
fills zero = give []
fills (suc n) = do
  before ← fills n
  last ← fill
  give (before ++ last ∷ [])

-- 280 whole rows, 40 rows upward to those from `top` on
abbrev pub scroll_to : ℕ → Op
scroll_to top = Scroll (record { source = record { x = pos 0; y = pos (top + 40) }; dest = rect_at 0 top 1920 280 })

-- a scroll to rows whose first is a multiple of 40
unfoldable pub scroll : Making Op
scroll = do
  t ← draw 20
  give (scroll_to (40 * t))

-- the operations of round i: in each fifth round one scroll, else one to four fills
unfoldable pub operations : ℕ → Making (List Op)
operations i =
    if i % 5 == 0 then (do
      op ← scroll
      give (op ∷ [])) else (do
        more ← draw 4
        fills (1 + more))

-- a point of the screen
unfoldable pub point : Making Point
point = do
  x ← draw 1920
  y ← draw 1080
  give (record { x = pos x; y = pos y })

-- the pointer of round i: in each third round at a point of the screen, seen
unfoldable pub pointer : ℕ → Making (List Step)
pointer i =
    if i % 3 == 0 then (do
      position ← point
      give (Draw (Pointer position true) ∷ [])) else give []

-- client k looks: it acquires a frame and releases it
abbrev pub look : ℕ → List Step
look k = Call k (Acquire 0) ∷ Call k Release ∷ []

-- and does so in the rounds that are a multiple of a number
abbrev pub looks_of : ℕ → ℕ → ℕ → List Step
looks_of k every i = if i % every == 0 then look k else []

-- who looks in round i: client 1, in each fourth round client 2 and in each 25th client 3
unfoldable pub looks : ℕ → List Step
looks i = look 1 ++ looks_of 2 4 i ++ looks_of 3 25 i

-- the steps of round i
unfoldable pub round : ℕ → Making (List Step)
round i = do
  ops ← operations i
  pointers ← pointer i
  give (Draw (Present ops) ∷ pointers ++ looks i)

-- the rounds 1 to n
unfoldable pub rounds : ℕ → Making (List Step)
rounds zero = give []
rounds (suc n) = do
  before ← rounds n
  last ← round (suc n)
  give (before ++ last)

-- each of the three clients calls this, in order
abbrev pub each_calls : ClientCall → List Step
each_calls call = Call 1 call ∷ Call 2 call ∷ Call 3 call ∷ []

-- the clients duplicate, there are 300 rounds, and the clients close
unfoldable pub made_steps : ℕ → List Step
made_steps seed = each_calls Duplicate ++ (rounds 300 seed).value ++ each_calls Close

-- a screen of 1920 by 1080 points, which isn't turned
abbrev pub screen : Mode
screen = record { width = 1920; height = 1080; rotation = Identity }

-- a script of this screen and of three clients
unfoldable pub made : ℕ → Script
made seed =
    record {
      spec = record { modes = screen ∷ []; capacity = 4096; privileged = [] };
      clients = 1 ∷ 2 ∷ 3 ∷ [];
      steps = made_steps seed;
    }
