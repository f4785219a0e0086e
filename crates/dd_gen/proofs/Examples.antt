-- The first states of the seed 0, and some steps of three seeds, as a small program of another language makes them.
use Rattle.std.proofs.Common.{◌≡◌, ℕ, zero, suc, pos, true, List, [], ◌∷◌, Some, refl}
use Rattle.std.specs.Prelude.{slice_get}
use Rattle.dd_geom.specs.declared.rect.Point.{Point}
use Rattle.dd_ops.specs.declared.operations.Op.{Op}
use Rattle.dd_ops.specs.declared.operations.Op.TheVariants.{Fill, Scroll}
use Rattle.dd_log.specs.declared.events.Draw.TheVariants.{Present, Pointer}
use Rattle.dd_calls.specs.declared.steps.Step.TheVariants.{Draw}
use Rattle.dd_gen.specs.Making.{following, draw}
use Rattle.dd_gen.specs.Generator.{fill, fills, scroll, operations, point, pointer, looks, round, rounds}

-- the n states after a state
abbrev states : ℕ → ℕ → List ℕ
states zero x = []
states (suc n) x = following x ∷ states n (following x)

first_states :
    states 8 0 ≡
    0x3c6e_f35f ∷ 0x4750_2932 ∷ 0xd1cc_f6e9 ∷ 0xaaf9_5334 ∷ 0x6252_e503 ∷ 0x9f2e_c686 ∷ 0x57fe_6c2d ∷ 0xa3d9_5fa8 ∷ []
first_states = refl

-- a fill by the four sides of its rectangle and its colour, and a point
abbrev fill_of : ℕ → ℕ → ℕ → ℕ → ℕ → Op
fill_of l t r b colour = Fill (record { left = pos l; top = pos t; right = pos r; bottom = pos b }) colour

abbrev point_of : ℕ → ℕ → Point
point_of x y = record { x = pos x; y = pos y }

-- a scroll of whole rows to those from `top` on, from those further down
abbrev scroll_of : ℕ → ℕ → ℕ → Op
scroll_of top bottom from =
    Scroll (record {
      source = point_of 0 from;
      dest = record { left = pos 0; top = pos top; right = pos 1920; bottom = pos bottom };
    })

-- in the first five rounds of a seed: the first present, the first pointer and the first scroll
abbrev Begins : ℕ → List Op → Point → Op → Type 0
Begins seed ops position op =
    (slice_get (rounds 5 seed).value 0 ≡ Some (Draw (Present ops)))
    × (slice_get (rounds 5 seed).value 7 ≡ Some (Draw (Pointer position true)))
    × (slice_get (rounds 5 seed).value 15 ≡ Some (Draw (Present (op ∷ []))))

seed_0 : Begins 0
    (fill_of 256 708 345 758 0x9f_2efe ∷ fill_of 545 277 593 351 0xbc_d123 ∷ fill_of 406 442 460 493 0x4f_c94f ∷ [])
    (point_of 882 462) (scroll_of 400 680 440)
unfolding draw fill fills scroll operations point pointer looks round rounds
seed_0 = (refl, refl, refl)

seed_1 : Begins 1 (fill_of 800 46 915 78 0x5e_9856 ∷ []) (point_of 1077 626) (scroll_of 600 880 640)
unfolding draw fill fills scroll operations point pointer looks round rounds
seed_1 = (refl, refl, refl)

last_seed : Begins 4294967295
    (fill_of 1511 835 1574 904 0xdf_c4a5 ∷ fill_of 640 474 723 492 0x0d_8110 ∷ [])
    (point_of 572 37) (scroll_of 200 480 240)
unfolding draw fill fills scroll operations point pointer looks round rounds
last_seed = (refl, refl, refl)
