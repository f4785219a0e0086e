-- Rows rounded to tiles: the columns that rows have together, and where a row of tiles ends.
use Rattle.std.proofs.Common.{◌≡◌, ℕ, ◌+◌, ◌-◌, ◌*◌, ◌/◌, ◌<◌, ◌≤◌, min, max, List, Bool, true, false, ◌||◌, nat_lt, sym, ap, ◌∙◌, refl, arith, inl, inr}
use Rattle.std.proofs.Math.Path.{fun_ext}
use Rattle.std.specs.List.{range_with_len, list_any}
use Rattle.std.proofs.lemmas.Bool.{cases_lt, false≢true, or_cases, or_left, or_right, and_parts, and_from}
use Rattle.std.proofs.lemmas.Nat.{div-mul-add}
use Rattle.dd_geom.specs.Grid.{Grid, grid}
use Rattle.dd_geom.proofs.GridLemmas.{value_at-grid}
use Rattle.dd_bits.specs.Tiles.{tile_has}
use Rattle.dd_bits.proofs.RowRuns.{not_true}
use Rattle.dd_bits.proofs.TileLemmas.{HoldsAt-range, list_any-range, same_bool, tile_has-from, tile_has-to, IsOn-from}
use Rattle.dd_region.specs.declared.run.Run.{Run}
use Rattle.dd_region.specs.declared.rows.Rows.{Rows}
use Rattle.dd_region.specs.Runs.{in_runs}
use Rattle.dd_region.specs.Rows.{row_at, depth, has_point, AreWithin, HasBandMore}
use Rattle.dd_region.specs.Tiling.{tile_columns, columns_between, tile_point, IsTilesEnd, HasTiles}
use Rattle.dd_region.proofs.TileRuns.{tile_start, tile_order}

-- further rows with the runs of one
pub columns_between-more :
    (s : Rows) (top y end x : ℕ) → top ≤ y → y < end
    → ((z : ℕ) → y ≤ z → z < end → row_at s z ≡ row_at s y)
    → columns_between s top end x ≡ (columns_between s top y x || in_runs (row_at s y) x)
columns_between-more s top y end x a b same =
    let f : ℕ → Bool = λ z. has_point s x z in
    same_bool _ _
    (λ h.
    let hold = HoldsAt-range f (end - top) top h in
    elim (cases_lt hold.place y) [
      | inl l ↦
          or_left _ _ (list_any-range f (y - top) top hold.place hold.from (omega (arith, hold.from)) hold.holds)
      | inr l ↦
          or_right _ _ (sym (ap (λ r. in_runs r x) (same hold.place l (omega (arith, hold.to)))) ∙ hold.holds)
    ])
    (λ h. elim (or_cases (columns_between s top y x) (in_runs (row_at s y) x) h) [
      | inl e ↦
          let hold = HoldsAt-range f (y - top) top e in
          list_any-range f (end - top) top hold.place hold.from (omega (arith, hold.to)) hold.holds
      | inr e ↦ list_any-range f (end - top) top y a (omega arith) e
    ])

-- a row of all rows' runs to which those of further rows were added
pub united_more :
    (s : Rows) (top y end : ℕ) (now first own new : List Run) → top ≤ y → y < end
    → ((z : ℕ) → y ≤ z → z < end → row_at s z ≡ row_at s y)
    → first ≡ now → ((x : ℕ) → in_runs now x ≡ columns_between s top y x) → own ≡ row_at s y
    → ((x : ℕ) → in_runs new x ≡ (in_runs first x || in_runs own x))
    → (x : ℕ) → in_runs new x ≡ columns_between s top end x
united_more s top y end now first own new a b same e before f step x =
    step x ∙ ap (λ r. in_runs r x || in_runs own x) e ∙ ap (λ t. t || in_runs own x) (before x)
    ∙ ap (λ r. columns_between s top y x || in_runs r x) f
    ∙ sym (columns_between-more s top y end x a b same)

start_of_multiple : (k t : ℕ) → 1 ≤ t → k * t / t * t ≡ k * t
start_of_multiple k t some =
    let e : k * t + 0 ≡ k * t = omega arith in
    ap (λ n. n * t) (ap (λ n. n / t) (sym e) ∙ div-mul-add k t 0 (omega arith))

-- the row below a row of tiles begins the next
next_start : (t top : ℕ) → 1 ≤ t → top / t * t ≡ top → (top + t) / t * t ≡ top + t
next_start t top some e =
    let next : top + t ≡ (top / t + 1) * t = omega (arith, e) in
    ap (λ n. n / t * t) next ∙ start_of_multiple (top / t + 1) t some ∙ sym next

-- the end is the surface's, or where the rows of tiles end that the same rows reach
pub IsTilesEnd-all : (t h top : ℕ) → top < h → IsTilesEnd t h top h h
IsTilesEnd-all t h top l = record {
  some = l;
  within = omega arith;
  whole = λ a. absurd (omega arith);
  short = λ a. omega arith;
}

pub IsTilesEnd-max :
    (t h top same_to one end : ℕ) → 1 ≤ t → top < h → top / t * t ≡ top → same_to ≤ h → one ≡ min (top + t) h
    → end ≡ max one (same_to / t * t) → IsTilesEnd t h top same_to end
IsTilesEnd-max t h top same_to one end some l start within e f =
    let last = tile_start t same_to some in
    record {
      some = omega arith;
      within = omega (arith, last.from);
      whole = λ a. elim (cases_lt one (same_to / t * t)) [
        | inl b ↦
            let is : end ≡ same_to / t * t = omega arith in
            ap (λ n. n / t * t) is ∙ start_of_multiple (same_to / t) t some ∙ sym is
        | inr b ↦
            let is : end ≡ top + t = omega arith in
            ap (λ n. n / t * t) is ∙ next_start t top some start ∙ sym is
      ];
      short = λ a. omega (arith, last.from);
    }

-- rows of one row of tiles
same_tile : (t top y z : ℕ) → 1 ≤ t → top / t * t ≡ top → top ≤ y → y < top + t → top ≤ z → z < top + t → z / t ≡ y / t
same_tile t top y z some start a b c d =
    let in_first : (n : ℕ) → top ≤ n → n < top + t → n / t ≡ top / t =
    λ n p q.
    let at : top / t * t + (n - top) ≡ n = omega (arith, start) in
    ap (λ m. m / t) (sym at) ∙ div-mul-add (top / t) t (n - top) (omega arith) in
    in_first z c d ∙ sym (in_first y a b)

-- the rows of one row of tiles lie between the same ends
tile_within :
    (t h top same_to end y z : ℕ) → 1 ≤ t → top / t * t ≡ top → IsTilesEnd t h top same_to end → top ≤ y → y < end
    → z < h → z / t ≡ y / t → (top ≤ z) × (z < end)
tile_within t h top same_to end y z some start is a b l e =
    let at_y = tile_start t y some in
    let at_z = tile_start t z some in
    let same : z / t * t ≡ y / t * t = ap (λ n. n * t) e in (
      omega (arith, at_z.from, tile_order t top y some a),
      elim (cases_lt z end) [
        | inl c ↦ c
        | inr c ↦
            let order = tile_order t end z some c in
            absurd (omega (arith, is.whole (omega arith), order, at_y.from))
      ],
    )

-- columns of the tiles of some rows together are the points of the tiles of each
pub tiles_of_rows :
    (t w h : ℕ) (s : Rows) (top same_to end x y : ℕ) → 1 ≤ t → depth s ≡ h → AreWithin s w → top / t * t ≡ top
    → IsTilesEnd t h top same_to end
    → ((z : ℕ) → top ≤ z → z < same_to → row_at s z ≡ row_at s top)
    → top ≤ y → y < end → tile_columns t w (columns_between s top end) x ≡ tile_point t w h s x y
tiles_of_rows t w h s top same_to end x y some deep within start is same a b =
    let g : Grid Bool = grid w h (has_point s) in
    let column : ℕ → Bool = λ k. columns_between s top end (x / t * t + k) in
    let inside : (u v : ℕ) → v < h → has_point s u v ≡ true → u < w =
    λ u v l e. elim (cases_lt u w) [
      | inl p ↦ p
      | inr p ↦ absurd (false≢true (sym (within u v (omega (arith, deep)) p) ∙ e))
    ] in
    same_bool _ _
    (λ e.
    let parts = and_parts (nat_lt x w) (list_any column (range_with_len 0 t)) e in
    let hold = HoldsAt-range column t 0 parts.1 in
    let u : ℕ = x / t * t + hold.place in
    let row = HoldsAt-range (λ z. has_point s u z) (end - top) top hold.holds in
    let v : ℕ = row.place in
    let v_below : v < end = omega (arith, row.from, row.to) in
    let at : u / t ≡ x / t = div-mul-add (x / t) t hold.place (omega (arith, hold.to)) in
    let point : (z : ℕ) → z < h → has_point s u z ≡ true → z / t ≡ y / t → tile_has g t (x / t) (y / t) ≡ true =
    λ z l p q. tile_has-to g t (x / t) (y / t) u z some at q
    (value_at-grid false w h (has_point s) u z (inside u z l p) l ∙ p) in
    and_from _ _ parts.0
    (elim (cases_lt (top + t) end) [
      | inl long ↦
          let y_row : row_at s v ≡ row_at s y =
          same v row.from (omega (arith, is.short long)) ∙ sym (same y a (omega (arith, is.short long))) in
          point y (omega (arith, is.within)) (sym (ap (λ r. in_runs r u) y_row) ∙ row.holds) refl
      | inr short ↦
          point v (omega (arith, is.within)) row.holds
          (same_tile t top y v some start a (omega arith) row.from (omega arith))
    ]))
    (λ e.
    let parts = and_parts (nat_lt x w) (tile_has g t (x / t) (y / t)) e in
    let p = tile_has-from g t (x / t) (y / t) some parts.1 in
    let on = IsOn-from g p.x p.y p.is in
    let has : has_point s p.x p.y ≡ true =
    sym (value_at-grid false w h (has_point s) p.x p.y on.across on.down) ∙ p.is in
    let ends = tile_within t h top same_to end y p.y some start is a b on.down p.row in
    let at = tile_start t p.x some in
    let same_start : p.x / t * t ≡ x / t * t = ap (λ n. n * t) p.column in
    let k : ℕ = p.x - x / t * t in
    let there : x / t * t + k ≡ p.x = omega (arith, at.from, same_start) in
    and_from _ _ parts.0
    (list_any-range column t 0 k (omega arith) (omega (arith, at.from, at.to, same_start))
    (ap (columns_between s top end) there
    ∙ list_any-range (λ z. has_point s p.x z) (end - top) top p.y ends.0 (omega (arith, ends.0, ends.1)) has)))

-- rows together have no column past the side of a surface
pub columns_between-within :
    (s : Rows) (w top bottom x : ℕ) → AreWithin s w → bottom ≤ depth s → w ≤ x → columns_between s top bottom x ≡ false
columns_between-within s w top bottom x within deep past =
    not_true (columns_between s top bottom x) (λ e.
    let hold = HoldsAt-range (λ z. has_point s x z) (bottom - top) top e in
    absurd (false≢true (sym (within x hold.place (omega (arith, hold.from, hold.to)) past) ∙ hold.holds)))

-- one row of tiles more
pub HasTiles-more :
    (t w h : ℕ) (old before new : Rows) (top same_to end : ℕ) (row made : List Run) → 1 ≤ t → depth old ≡ h
    → AreWithin old w → HasTiles t w h old top before → top / t * t ≡ top → IsTilesEnd t h top same_to end
    → ((z : ℕ) → top ≤ z → z < same_to → row_at old z ≡ row_at old top)
    → ((x : ℕ) → in_runs row x ≡ columns_between old top end x)
    → ((x : ℕ) → in_runs made x ≡ tile_columns t w (in_runs row) x)
    → HasBandMore before made end new → HasTiles t w h old end new
HasTiles-more t w h old before new top same_to end row made some deep within has start is same united rounded more =
    record {
      rows = more.rows;
      deep = more.deep;
      points = λ x y l. elim (cases_lt y top) [
        | inl a ↦
            let above : y < depth before = omega (arith, has.deep) in
            ap (λ r. in_runs r x) (more.above y above) ∙ has.points x y above
        | inr a ↦
            let y_in : y < end = omega (arith, more.deep) in
            ap (λ r. in_runs r x) (more.last y (omega (arith, has.deep)) y_in) ∙ rounded x
            ∙ ap (λ p. tile_columns t w p x) (fun_ext united)
            ∙ tiles_of_rows t w h old top same_to end x y some deep within start is same a y_in
      ];
    }
