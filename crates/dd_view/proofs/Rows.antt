-- Pixels and rows written one after another.
use Rattle.std.proofs.Common.{◌≡◌, ℕ, ◌+◌, List, [], ◌∷◌, ◌++◌, sym, ap, ◌∙◌, append_assoc, zero-add}
use Rattle.std.specs.List.{flat_map, range_with_len}
use Rattle.std.proofs.lemmas.List.{append-nil, map-id}
use Rattle.std.proofs.lemmas.List.FromFn.{map-range_with_len_more}
use Rattle.std.proofs.lemmas.Grind.{flat_map-append}
use Rattle.dd_geom.specs.Grid.{Grid}
use Rattle.dd_modes.specs.declared.modes.Mode.{Mode}
use Rattle.dd_modes.specs.Turning.{turned_width}
use Rattle.dd_view.specs.Ppm.{pixel_text, turned_colour, row_text, rows_text}

range_more : (n : ℕ) → range_with_len 0 (n + 1) ≡ range_with_len 0 n ++ n ∷ []
range_more n =
    sym (map-id (range_with_len 0 (n + 1)))
    ∙ map-range_with_len_more (λ (k : ℕ). k) 0 n n (zero-add n)
    ∙ ap (λ (l : List ℕ). l ++ n ∷ []) (map-id (range_with_len 0 n))

flat_more : (f : ℕ → List ℕ) (n : ℕ)
    → flat_map f (range_with_len 0 (n + 1)) ≡ flat_map f (range_with_len 0 n) ++ f n
flat_more f n =
    ap (flat_map f) (range_more n)
    ∙ flat_map-append f (range_with_len 0 n) (n ∷ [])
    ∙ ap (λ (l : List ℕ). flat_map f (range_with_len 0 n) ++ l) (append-nil (f n))

-- what is written behind a text that was written behind another
behind : (old now new front part all : List ℕ) → now ≡ old ++ front → new ≡ now ++ part → all ≡ front ++ part
    → new ≡ old ++ all
behind old now new front part all first next is =
    next ∙ ap (λ (l : List ℕ). l ++ part) first ∙ append_assoc old front part
    ∙ ap (λ (l : List ℕ). old ++ l) (sym is)

pub no_pixels : (s : Grid ℕ) (m : Mode) (y : ℕ) (text : List ℕ) → text ≡ text ++ row_text s m y 0
unfolding row_text
no_pixels s m y text = sym (append-nil text)

pub pixel_more : (s : Grid ℕ) (m : Mode) (y x : ℕ) (old now new : List ℕ) → now ≡ old ++ row_text s m y x
    → new ≡ now ++ pixel_text (turned_colour s m x y) → new ≡ old ++ row_text s m y (x + 1)
unfolding row_text
pixel_more s m y x old now new first next =
    behind old now new _ _ _ first next (flat_more (λ x. pixel_text (turned_colour s m x y)) x)

pub no_rows : (s : Grid ℕ) (m : Mode) (text : List ℕ) → text ≡ text ++ rows_text s m 0
unfolding rows_text
no_rows s m text = sym (append-nil text)

pub row_more : (s : Grid ℕ) (m : Mode) (y : ℕ) (old now new : List ℕ) → now ≡ old ++ rows_text s m y
    → new ≡ now ++ row_text s m y (turned_width m) → new ≡ old ++ rows_text s m (y + 1)
unfolding rows_text
row_more s m y old now new first next =
    behind old now new _ _ _ first next (flat_more (λ y. row_text s m y (turned_width m)) y)
