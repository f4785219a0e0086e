-- Rectangles and moves as sets of points, after the API's RECT, POINT and DXGI_OUTDUPL_MOVE_RECT.
use Rattle.std.specs.Prelude.{◌≡◌, ℕ, ◌+◌, ◌-◌, ◌*◌, ◌≤◌, ℤ, pos, negsuc, int_le, int_lt, ◌<ℤ◌, ◌+ℤ◌, ◌-ℤ◌, FitsSigned, Bool, false, ◌&&◌, nat_le, nat_lt}
use Rattle.std.specs.Int.{int_max, int_min, w32}
use Rattle.dd_geom.specs.declared.rect.Rect.{Rect}
use Rattle.dd_geom.specs.declared.rect.Move.{Move}
use Rattle.dd_geom.specs.declared.rect.Sides.{Sides}
use Rattle.dd_geom.specs.declared.rect.TheConstants.{MAX_SIDE, MAX_PIXELS}

-- the points of a rectangle: right and bottom are exclusive
abbrev pub covers : Rect → ℤ → ℤ → Bool
covers r x y = int_le r.left x && int_lt x r.right && int_le r.top y && int_lt y r.bottom

-- a span has at least one place, and all of its places among the first `length`
abbrev pub spans_inside : ℤ → ℤ → ℕ → Bool
spans_inside from to length = int_le (pos 0) from && int_lt from to && int_le to (pos length)

-- a rectangle lies inside a surface
abbrev pub is_inside : Rect → ℕ → ℕ → Bool
is_inside r w h = spans_inside r.left r.right w && spans_inside r.top r.bottom h

-- the sizes that a surface may have
pub record IsSize (w h : ℕ) : Type 0 where
  pub wide : 1 ≤ w
  pub high : 1 ≤ h
  pub width : w ≤ MAX_SIDE
  pub height : h ≤ MAX_SIDE
  pub pixels : w * h ≤ MAX_PIXELS

-- a coordinate as a place of a row or column; what lies before the first is read as the first
abbrev pub place : ℤ → ℕ
place (pos n) = n
place (negsuc n) = 0

abbrev pub sides : Rect → Sides
sides r = record { left = place r.left; top = place r.top; right = place r.right; bottom = place r.bottom }

-- the points between four sides
abbrev pub between : Sides → ℕ → ℕ → Bool
between s x y = nat_le s.left x && nat_lt x s.right && nat_le s.top y && nat_lt y s.bottom

-- the points of a surface that a rectangle covers
abbrev pub has : Rect → ℕ → ℕ → Bool
has r = between (sides r)

-- on a surface, these are exactly the rectangle's own points
abbrev pub HasIsCovers : Type 0
HasIsCovers = (r : Rect) (x y : ℕ) → has r x y ≡ covers r (pos x) (pos y)

-- a rectangle has at least one point
pub record HasPoints (r : Rect) : Type 0 where
  pub across : r.left <ℤ r.right
  pub down : r.top <ℤ r.bottom

-- the points of a rectangle are those that two rectangles share
abbrev pub CoversBoth : Rect → Rect → Rect → Type 0
CoversBoth r a b = (x y : ℤ) → covers r x y ≡ (covers a x y && covers b x y)

-- the rectangle where two rectangles meet, which has no points where they don't
abbrev pub meet_of : Rect → Rect → Rect
meet_of a b =
    record {
      left = int_max a.left b.left;
      top = int_max a.top b.top;
      right = int_min a.right b.right;
      bottom = int_min a.bottom b.bottom;
    }

-- two rectangles share no point
abbrev pub AreApart : Rect → Rect → Type 0
AreApart a b = (x y : ℤ) → (covers a x y && covers b x y) ≡ false

-- four sides that lie inside a surface
pub record AreInside (s : Sides) (w h : ℕ) : Type 0 where
  pub across : s.left ≤ s.right
  pub down : s.top ≤ s.bottom
  pub right : s.right ≤ w
  pub bottom : s.bottom ≤ h

-- a rectangle so many columns further right and rows further down
abbrev pub shifted : Rect → ℤ → ℤ → Rect
shifted r dx dy = record { left = r.left +ℤ dx; top = r.top +ℤ dy; right = r.right +ℤ dx; bottom = r.bottom +ℤ dy }

-- each side of a rectangle is a number of 32 bits with a sign
pub record FitsSides (r : Rect) : Type 0 where
  pub left : FitsSigned w32 r.left
  pub top : FitsSigned w32 r.top
  pub right : FitsSigned w32 r.right
  pub bottom : FitsSigned w32 r.bottom

-- each coordinate of a move is
pub record FitsMove (m : Move) : Type 0 where
  pub x : FitsSigned w32 m.source.x
  pub y : FitsSigned w32 m.source.y
  pub dest : FitsSides m.dest

-- how many points lie between a rectangle's sides
abbrev pub points : Rect → ℕ
points r = (place r.right - place r.left) * (place r.bottom - place r.top)

-- the rectangle that a move copies from
abbrev pub source_rect : Move → Rect
source_rect m =
    record {
      left = m.source.x;
      top = m.source.y;
      right = m.source.x +ℤ (m.dest.right -ℤ m.dest.left);
      bottom = m.source.y +ℤ (m.dest.bottom -ℤ m.dest.top);
    }

-- a move lies inside a surface: what it copies to, and what it copies from
abbrev pub is_move_inside : Move → ℕ → ℕ → Bool
is_move_inside m w h = is_inside m.dest w h && is_inside (source_rect m) w h

-- the column and the row of the source point of a point of the destination
abbrev pub source_x : Move → ℕ → ℕ
source_x m x = (x + place m.source.x) - place m.dest.left

abbrev pub source_y : Move → ℕ → ℕ
source_y m y = (y + place m.source.y) - place m.dest.top
