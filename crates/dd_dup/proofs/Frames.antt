-- The frame that is made, and what it rebuilds.
use Rattle.std.proofs.Common.{◌≡◌, ℕ, ◌+◌, ◌-◌, ◌*◌, Bool, true, false, List, [], ◌∷◌, length, drop, Option, Some, None, refl, sym, ap, ◌∙◌, subst, if◌then◌else◌}
use Rattle.dd_ops.specs.declared.operations.Op.{Op}
use Rattle.dd_geom.proofs.GridLemmas.{length-cells}
use Rattle.dd_geom.specs.Rect.{has, source_x, source_y}
use Rattle.dd_grid.specs.Cell.{plain, covered_cell}
use Rattle.dd_modes.specs.declared.modes.Mode.{Mode}
use Rattle.dd_geom.specs.Grid.{Grid}
use Rattle.dd_grid.specs.Cell.{Cell}
use Rattle.dd_grid.specs.Drawing.{black, seen, any_hidden, hidden_points, cell_at, image_at}
use Rattle.dd_ops.specs.declared.operations.Op.TheVariants.{Fill, Blit, Cover, Scroll}
use Rattle.dd_ops.specs.Operations.{drawn_by, drawn}
use Rattle.dd_acc.specs.Effects.{is_coalesced}
use Rattle.dd_log.specs.declared.events.Entry.{Entry}
use Rattle.dd_log.specs.History.{History, first_entries, desk, desk_mode, entries_fit, legal, present_of, any_begins, last_present}
use Rattle.dd_log.proofs.Pictures.{goes_on, since_start}
use Rattle.dd_acc.specs.Rebuild.{any_has, rebuild}
use Rattle.dd_log.specs.Picture.{picture, view, shown, shown_after, drawn_if, presents}
use Rattle.dd_dup.specs.declared.frame.Frame.{Frame}
use Rattle.dd_dup.specs.declared.frame.News.{News}
use Rattle.dd_dup.specs.declared.frame.PictureNews.{PictureNews}
use Rattle.dd_dup.specs.News.{frame, frame_from, picture_news, picture_since, news_since, moves_of, dirt_of, news}
use Rattle.dd_dup.specs.Reply.{with_frame}
use Rattle.dd_dup.specs.Duplicator.{Duplicator, holding, HeldRebuilds, IsExactSince, FramesRebuild, FramesAreReached}
use Rattle.dd_dup.specs.Stands.{Stands}
use Rattle.dd_dup.proofs.Advance.{width-shown, height-shown, rebuild-news, reached-news, exact-news}
pub use Rattle.dd_dup.proofs.Standing.{first_entries_later, picture_all, stands_later, seen-black, opened_at, stands_fresh, stands_holding, stands_losing}
pub use Rattle.dd_dup.proofs.Granting.{granted_is, granted_kept, kept_parts}

pub news-coalesced : (w h last : ℕ) (hidden : Grid Bool) (es : List Entry)
    → (picture_news w h last hidden es).coalesced ≡ is_coalesced w h (presents es)
unfolding picture_news
news-coalesced w h last hidden es = refl

pub news-moves : (w h last : ℕ) (hidden : Grid Bool) (es : List Entry)
    → (picture_news w h last hidden es).moves ≡ moves_of es
unfolding picture_news
news-moves w h last hidden es = refl

pub news-dirt : (w h last : ℕ) (hidden : Grid Bool) (es : List Entry)
    → (picture_news w h last hidden es).dirt ≡ dirt_of w h es
unfolding picture_news
news-dirt w h last hidden es = refl

-- the desk's picture has the mode's size
pub width-picture : (h : History) → (picture h).width ≡ (desk_mode h).width
width-picture h =
    ap (λ (p : Grid Cell). p.width) (since_start h)
    ∙ width-shown (black (desk_mode h).width (desk_mode h).height) (drop (desk h).picture_start h.entries)

pub height-picture : (h : History) → (picture h).height ≡ (desk_mode h).height
height-picture h =
    ap (λ (p : Grid Cell). p.height) (since_start h)
    ∙ height-shown (black (desk_mode h).width (desk_mode h).height) (drop (desk h).picture_start h.entries)

-- the same of a mark from which on no picture begins
pub width-mark : (h : History) (m : ℕ) → any_begins (news h m) ≡ false
    → (picture (first_entries m h)).width ≡ (desk_mode h).width
width-mark h m none = width-picture (first_entries m h) ∙ ap (λ (c : Mode). c.width) (goes_on h m none).mode

pub height-mark : (h : History) (m : ℕ) → any_begins (news h m) ≡ false
    → (picture (first_entries m h)).height ≡ (desk_mode h).height
height-mark h m none = height-picture (first_entries m h) ∙ ap (λ (c : Mode). c.height) (goes_on h m none).mode

-- the entries from such a mark on bring the picture of the mark forward
pub picture_forward : (h : History) (m : ℕ) → any_begins (news h m) ≡ false
    → shown (picture (first_entries m h)) (drop m h.entries) ≡ picture h
picture_forward h m none = sym (goes_on h m none).picture

-- the entries from a mark on bring what is seen and what is hidden forward
pub seen_forward : (h : History) (m : ℕ) (es : List Entry) → any_begins (news h m) ≡ false → es ≡ news h m
    → seen (shown (picture (first_entries m h)) es) ≡ view h
seen_forward h m es none is =
    ap seen (ap (shown (picture (first_entries m h))) is ∙ picture_forward h m none)

pub hidden_forward : (h : History) (m : ℕ) (es : List Entry) → any_begins (news h m) ≡ false → es ≡ news h m
    → hidden_points (shown (picture (first_entries m h)) es) ≡ hidden_points (picture h)
hidden_forward h m es none is =
    ap hidden_points (ap (shown (picture (first_entries m h))) is ∙ picture_forward h m none)

-- a picture that is drawn has a cell for each point
whole-drawn_by : (p : Grid Cell) (op : Op)
    → length (drawn_by p op).cells ≡ (drawn_by p op).width * (drawn_by p op).height
whole-drawn_by p (Fill rect colour) =
    length-cells p.width p.height (λ x y. if has rect x y then plain colour else cell_at p x y)
whole-drawn_by p (Blit rect colours) =
    length-cells p.width p.height (λ x y. if has rect x y then plain (image_at rect colours x y) else cell_at p x y)
whole-drawn_by p (Cover rect colours) =
    length-cells p.width p.height
    (λ x y. if has rect x y then covered_cell (image_at rect colours x y) else cell_at p x y)
whole-drawn_by p (Scroll mv) =
    length-cells p.width p.height
    (λ x y. if has mv.dest x y then cell_at p (source_x mv x) (source_y mv y) else cell_at p x y)

abbrev IsFull : Grid Cell → Type 0
IsFull p = length p.cells ≡ p.width * p.height

whole-drawn : (p : Grid Cell) (ops : List Op) → IsFull p → IsFull (drawn p ops)
whole-drawn p [] whole = whole
whole-drawn p (op ∷ ops) whole = whole-drawn (drawn_by p op) ops (whole-drawn_by p op)

whole-drawn_if : (p : Grid Cell) (o : Option (List Op)) → IsFull p → IsFull (drawn_if p o)
whole-drawn_if p None whole = whole
whole-drawn_if p (Some ops) whole = whole-drawn p ops whole

whole-shown : (p : Grid Cell) (es : List Entry) → IsFull p → IsFull (shown p es)
whole-shown p [] whole = whole
whole-shown p (e ∷ es) whole = whole-shown (shown_after p e.event) es (whole-drawn_if p (present_of e.event) whole)

pub whole-picture : (h : History) → IsFull (picture h)
whole-picture h =
    subst IsFull (sym (since_start h))
    (whole-shown (black (desk_mode h).width (desk_mode h).height) (drop (desk h).picture_start h.entries)
    (length-cells (desk_mode h).width (desk_mode h).height (λ _ _. plain 0)))

-- what the entries from a mark on tell is what is new of the picture since it
pub told_news : (h : History) (m last : ℕ) (mode : Mode) (es : List Entry) (n : PictureNews)
    → any_begins (news h m) ≡ false → es ≡ news h m → mode ≡ desk_mode h → last ≡ last_present m (news h m)
    → n ≡ picture_news mode.width mode.height last (hidden_points (shown (picture (first_entries m h)) es)) es
    → n ≡ picture_since h m
told_news h m last mode es n none es_are mode_is last_is n_is =
    let k = desk_mode h in
    let now : Grid Bool = hidden_points (picture h) in
    n_is
    ∙ (ap (λ (g : Grid Bool). picture_news mode.width mode.height last g es) (hidden_forward h m es none es_are)
    ∙ (ap (λ (c : Mode). picture_news c.width c.height last now es) mode_is
    ∙ (ap (λ n. picture_news k.width k.height n now es) last_is
    ∙ ap (λ (xs : List Entry). picture_news k.width k.height (last_present m (news h m)) now xs) es_are)))

-- the frame that is made of what is new
pub news-hidden : (w h last : ℕ) (hidden : Grid Bool) (es : List Entry)
    → (picture_news w h last hidden es).hidden ≡ hidden
unfolding picture_news
news-hidden w h last hidden es = refl

pub hidden_news : (h : History) (mark pointer_mark : ℕ)
    → (news_since h mark pointer_mark).picture.hidden ≡ hidden_points (picture h)
hidden_news h mark pointer_mark =
    news-hidden (desk_mode h).width (desk_mode h).height (last_present mark (news h mark)) (hidden_points (picture h))
    (news h mark)

pub frame_made : (h : History) (mark pointer_mark : ℕ) (n : News) → n ≡ news_since h mark pointer_mark
    → frame_from n (any_hidden (picture h)) ≡ frame h mark pointer_mark
frame_made h mark pointer_mark n n_is = ap (λ (m : News). frame_from m (any_hidden (picture h))) n_is

-- a duplicator with these parts changed holds the frame of what is new
abbrev pub changed : Duplicator → ℕ → Frame → Grid ℕ → Grid Bool → ℕ → Duplicator
changed d mark f s hidden folded = record d {
  memory = with_frame d.memory mark f;
  surface = s;
  hidden = hidden;
  folded = folded;
}

pub holds : (d : Duplicator) (h : History) (mark : ℕ) (f : Frame) (s : Grid ℕ) (hidden : Grid Bool) (folded : ℕ)
    → mark ≡ length h.entries → f ≡ frame h d.memory.mark d.memory.pointer_mark → s ≡ view h
    → hidden ≡ hidden_points (picture h)
    → folded ≡ d.folded + (length h.entries - d.memory.mark)
    → changed d mark f s hidden folded ≡ holding d h
holds d h mark f s hidden folded mark_is f_is s_is hidden_is folded_is =
    let n = length h.entries in
    let now = frame h d.memory.mark d.memory.pointer_mark in
    ap (λ k. changed d k f s hidden folded) mark_is
    ∙ (ap (λ (g : Frame). changed d n g s hidden folded) f_is
    ∙ (ap (λ (t : Grid ℕ). changed d n now t hidden folded) s_is
    ∙ (ap (λ (g : Grid Bool). changed d n now (view h) g folded) hidden_is
    ∙ ap (changed d n now (view h) (hidden_points (picture h))) folded_is)))

-- the frame's dirt is where the entries of its interval drew
pub reached : FramesAreReached
reached h mark pointer_mark t none rounded x y e =
    let w = (desk_mode h).width in
    let k = (desk_mode h).height in
    let es = news h mark in
    let last = last_present mark es in
    let hidden = hidden_points (picture h) in
    reached-news w k es x y (sym (news-coalesced w k last hidden es) ∙ rounded) ((goes_on h mark none).fit t)
    (ap (λ rs. any_has rs x y) (sym (news-dirt w k last hidden es)) ∙ e)

-- and exactly there, where none of it was rounded
pub exact : (h : History) (mark pointer_mark : ℕ) → legal h ≡ true → any_begins (news h mark) ≡ false
    → IsExactSince (Some (frame h mark pointer_mark)) h mark
exact h mark pointer_mark t none kept =
    let w = (desk_mode h).width in
    let k = (desk_mode h).height in
    let es = news h mark in
    let last = last_present mark es in
    let hidden = hidden_points (picture h) in
    news-dirt w k last hidden es
    ∙ exact-news w k es (sym (news-coalesced w k last hidden es) ∙ kept) ((goes_on h mark none).fit t)

-- a frame rebuilds what is seen at the end of its interval
pub rebuilds : FramesRebuild
rebuilds h mark pointer_mark t none =
    let p : Grid Cell = picture (first_entries mark h) in
    let es = news h mark in
    let last = last_present mark es in
    let ahead = picture_forward h mark none in
    let w = (desk_mode h).width in
    let k = (desk_mode h).height in
    let hidden = hidden_points (picture h) in
    let wide : p.width ≡ w = width-mark h mark none in
    let high : p.height ≡ k = height-mark h mark none in
    let fit : entries_fit w k es ≡ true = (goes_on h mark none).fit t in
    ap (λ ms. rebuild (seen p) ms (frame h mark pointer_mark).dirt (view h)) (news-moves w k last hidden es)
    ∙ (ap (λ rs. rebuild (seen p) (moves_of es) rs (view h))
    (news-dirt w k last hidden es
    ∙ (ap (λ n. dirt_of n k es) (sym wide) ∙ ap (λ n. dirt_of p.width n es) (sym high)))
    ∙ (ap (λ (q : Grid Cell). rebuild (seen p) (moves_of es) (dirt_of p.width p.height es) (seen q)) (sym ahead)
    ∙ (rebuild-news p es
    (subst (λ (n : ℕ). entries_fit n p.height es ≡ true) (sym wide)
    (subst (λ (n : ℕ). entries_fit w n es ≡ true) (sym high) fit))
    ∙ ap seen ahead)))

pub rebuilds_held : (d : Duplicator) (h : History) → Stands d h → legal h ≡ true
    → any_begins (news h d.memory.mark) ≡ false
    → HeldRebuilds d.surface (holding d h).memory.held (holding d h).surface
rebuilds_held d h stands t none =
    let f = frame h d.memory.mark d.memory.pointer_mark in
    ap (λ s. rebuild s f.moves f.dirt (view h)) stands.surface
    ∙ rebuilds h d.memory.mark d.memory.pointer_mark t none
