-- Of which kinds the steps are.
use Rattle.std.proofs.Common.{◌≡◌, ℕ, zero, suc, pos, ◌+ℤ◌, ◌-ℤ◌, ◌+◌, ◌*◌, ◌%◌, ◌<◌, ◌≤◌, [], ◌∷◌, ◌++◌, List, Bool, true, false, length, refl, ap, ◌∙◌, arith, length-append}
use Rattle.std.specs.Prelude.{◌==◌, if◌then◌else◌, ◌&&◌, nat_le}
use Rattle.std.specs.List.{list_all, AllByRecursion}
use Rattle.std.proofs.lemmas.Bool.{and_from, and_parts, lt-ltb, le-leb, leb-true}
use Rattle.std.proofs.lemmas.Int.{ints}
use Rattle.std.proofs.lemmas.List.Folds.{list_all-append}
use Rattle.dd_geom.specs.Rect.{spans_inside}
use Rattle.dd_ops.specs.declared.operations.Op.{Op}
use Rattle.dd_ops.specs.declared.operations.Op.TheVariants.{Fill}
use Rattle.dd_log.specs.declared.events.Draw.TheVariants.{Present, Pointer}
use Rattle.dd_calls.specs.declared.steps.ClientCall.TheVariants.{Duplicate, Close}
use Rattle.dd_calls.specs.declared.steps.Step.{Step}
use Rattle.dd_calls.specs.declared.steps.Step.TheVariants.{Draw, Call}
use Rattle.dd_calls.specs.Calls.{IsOfClient}
use Rattle.dd_gen.specs.Making.{Making, draw}
use Rattle.dd_gen.specs.Generator.{rect_at, scroll_to, fill, fills, scroll, operations, point, pointer, look, looks_of, looks, round, rounds, each_calls, made_steps}
use Rattle.dd_gen.specs.EverySeed.{is_made_op, is_made_drawing, is_made_call, is_made_step}

draw-below : (n s : ℕ) → 1 ≤ n → (draw n s).value < n
unfolding draw
draw-below n s h = omega arith

span_passes : (from count length : ℕ) → 1 ≤ count → from + count ≤ length
    → spans_inside (pos from) (pos (from + count)) length ≡ true
span_passes from count length some inside =
    and_from _ _ (and_from _ _ (le-leb 0 from (omega arith)) (le-leb (suc from) (from + count) (omega arith)))
    (le-leb (from + count) length inside)

fill_passes : (x y w h high low : ℕ) → x < 1800 → y < 1000 → w < 100 → h < 70 → high < 65536 → low < 256
    → is_made_op (Fill (rect_at x y (20 + w) (10 + h)) (256 * high + low)) ≡ true
fill_passes x y w h high low hx hy hw hh hhigh hlow =
    and_from _ _
    (and_from _ _ (span_passes x (20 + w) 1920 (omega arith) (omega arith))
    (span_passes y (10 + h) 1080 (omega arith) (omega arith)))
    (lt-ltb _ _ (omega arith))

fill-passes : (s : ℕ) → is_made_op (fill s).value ≡ true
unfolding fill
fill-passes s =
    let x = draw 1800 s in
    let y = draw 1000 x.state in
    let w = draw 100 y.state in
    let h = draw 70 w.state in
    let high = draw 65536 h.state in
    let low = draw 256 high.state in
    fill_passes x.value y.value w.value h.value high.value low.value
    (draw-below _ _ (omega arith)) (draw-below _ _ (omega arith)) (draw-below _ _ (omega arith))
    (draw-below _ _ (omega arith)) (draw-below _ _ (omega arith)) (draw-below _ _ (omega arith))

-- where the places end that are copied to those from a to a + n - 1
source_end : (from a n : ℕ) → pos from +ℤ (pos (a + n) -ℤ pos a) ≡ pos (from + n)
source_end from a n = omega (arith, ints)

source_passes : (from a n length : ℕ) → 1 ≤ n → from + n ≤ length
    → spans_inside (pos from) (pos from +ℤ (pos (a + n) -ℤ pos a)) length ≡ true
source_passes from a n length some inside =
    ap (λ end. spans_inside (pos from) end length) (source_end from a n) ∙ span_passes from n length some inside

scroll_passes : (top : ℕ) → top ≤ 760 → is_made_op (scroll_to top) ≡ true
scroll_passes top h =
    and_from _ _
    (and_from _ _ refl (span_passes top 280 1080 (omega arith) (omega arith)))
    (and_from _ _ refl (source_passes (top + 40) top 280 1080 (omega arith) (omega arith)))

scroll-passes : (s : ℕ) → is_made_op (scroll s).value ≡ true
unfolding scroll
scroll-passes s =
    let t = draw-below 20 s (omega arith) in
    scroll_passes (40 * (draw 20 s).value) (omega arith)

-- what holds of both ways to make something holds of the one that is chosen
chosen : {A : Type 0} (P : A → Type 0) (b : Bool) (f g : Making A) (s : ℕ) → P (f s).value → P (g s).value
    → P ((if b then f else g) s).value
chosen P true f g s hf hg = hf
chosen P false f g s hf hg = hg

both_pass : {A : Type 0} (p : A → Bool) (xs ys : List A) → list_all p xs ≡ true → list_all p ys ≡ true
    → list_all p (xs ++ ys) ≡ true
both_pass p xs ys hx hy = list_all-append p xs ys ∙ and_from _ _ hx hy

fills-pass : (n s : ℕ) → list_all is_made_op (fills n s).value ≡ true
unfolding fills
fills-pass zero s = refl
fills-pass (suc n) s =
    both_pass is_made_op (fills n s).value ((fill (fills n s).state).value ∷ []) (fills-pass n s)
    (and_from _ _ (fill-passes (fills n s).state) refl)

fills-count : (n s : ℕ) → length (fills n s).value ≡ n
unfolding fills
fills-count zero s = refl
fills-count (suc n) s = let before = fills-count n s in simp length-append (omega (arith, before))

present_passes : (ops : List Op) → 1 ≤ length ops → length ops ≤ 4 → list_all is_made_op ops ≡ true
    → is_made_drawing (Present ops) ≡ true
present_passes ops some few each = and_from _ _ (and_from _ _ (le-leb _ _ some) (le-leb _ _ few)) each

abbrev OpsPass : List Op → Type 0
OpsPass ops = is_made_drawing (Present ops) ≡ true

pub operations-pass : (i s : ℕ) → OpsPass (operations i s).value
unfolding operations
operations-pass i s =
    let more = draw 4 s in
    let few = draw-below 4 s (omega arith) in
    let count = fills-count (1 + more.value) more.state in
    chosen OpsPass (i % 5 == 0) _ _ s
    (present_passes ((scroll s).value ∷ []) (omega arith) (omega arith) (and_from _ _ (scroll-passes s) refl))
    (present_passes (fills (1 + more.value) more.state).value (omega arith) (omega arith)
    (fills-pass (1 + more.value) more.state))

point_passes :
    (x y : ℕ) → x < 1920 → y < 1080 → is_made_drawing (Pointer (record { x = pos x; y = pos y }) true) ≡ true
point_passes x y hx hy =
    and_from _ _ (and_from _ _ (and_from _ _ (le-leb _ _ (omega arith)) (le-leb _ _ hx)) (le-leb _ _ (omega arith)))
    (le-leb _ _ hy)

pub point-passes : (s : ℕ) → is_made_drawing (Pointer (point s).value true) ≡ true
unfolding point
point-passes s =
    let x = draw 1920 s in
    let y = draw 1080 x.state in
    point_passes x.value y.value (draw-below _ _ (omega arith)) (draw-below _ _ (omega arith))

-- each of some steps is a made one
abbrev pub StepsPass : List Step → Type 0
StepsPass steps = list_all is_made_step steps ≡ true

pointer-pass : (i s : ℕ) → StepsPass (pointer i s).value
unfolding pointer
pointer-pass i s = chosen StepsPass (i % 3 == 0) _ _ s (and_from _ _ (point-passes s) refl) refl

listed_pass : (b : Bool) (steps : List Step) → StepsPass steps → StepsPass (if b then steps else [])
listed_pass true steps h = h
listed_pass false steps h = refl

looks-pass : (i : ℕ) → StepsPass (looks i)
unfolding looks
looks-pass i =
    both_pass is_made_step (look 1 ++ looks_of 2 4 i) (looks_of 3 25 i)
    (both_pass is_made_step (look 1) (looks_of 2 4 i) refl (listed_pass (i % 4 == 0) (look 2) refl))
    (listed_pass (i % 25 == 0) (look 3) refl)

round-pass : (i s : ℕ) → StepsPass (round i s).value
unfolding round
round-pass i s =
    let later = (operations i s).state in
    and_from _ _ (operations-pass i s)
    (both_pass is_made_step (pointer i later).value (looks i) (pointer-pass i later) (looks-pass i))

rounds-pass : (n s : ℕ) → StepsPass (rounds n s).value
unfolding rounds
rounds-pass zero s = refl
rounds-pass (suc n) s =
    let later = (rounds n s).state in
    both_pass is_made_step (rounds n s).value (round (suc n) later).value (rounds-pass n s) (round-pass (suc n) later)

pub steps-pass : (seed : ℕ) → StepsPass (made_steps seed)
unfolding made_steps
steps-pass seed =
    let all = (rounds 300 seed).value in
    both_pass is_made_step (each_calls Duplicate ++ all) (each_calls Close)
    (both_pass is_made_step (each_calls Duplicate) all refl (rounds-pass 300 seed)) refl

of_client : (t : Step) → is_made_step t ≡ true → IsOfClient 3 t
of_client (Draw drawing) h = tt
of_client (Call client call) h =
    let p = and_parts (nat_le 1 client && nat_le client 3) (is_made_call call) h in
    let q = and_parts (nat_le 1 client) (nat_le client 3) p.0 in
    (leb-true _ _ q.0, leb-true _ _ q.1)

-- each call is of one of the clients
pub of_clients : (steps : List Step) → StepsPass steps → AllByRecursion (IsOfClient 3) steps
of_clients [] h = tt
of_clients (t ∷ ts) h =
    let p = and_parts (is_made_step t) (list_all is_made_step ts) h in
    (of_client t p.0, of_clients ts p.1)
