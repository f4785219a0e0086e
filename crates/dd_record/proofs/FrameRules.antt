-- Each frame that a duplicator can be given keeps the rules of a record.
use Rattle.std.proofs.Common.{◌≡◌, ℕ, ◌+◌, ◌≤◌, ◌||◌, Bool, true, false, List, length, refl, arith}
use Rattle.std.proofs.lemmas.List.{length-drop}
use Rattle.dd_geom.specs.declared.rect.Rect.{Rect}
use Rattle.dd_grid.specs.Drawing.{any_hidden}
use Rattle.dd_bits.specs.CanonicalList.{canonical_list}
use Rattle.dd_modes.specs.declared.modes.Mode.{Mode}
use Rattle.dd_ops.specs.declared.operations.Op.{Op}
use Rattle.dd_acc.specs.Effects.{dirt}
use Rattle.dd_log.specs.declared.events.Entry.{Entry}
use Rattle.dd_log.specs.declared.events.Event.{Event}
use Rattle.dd_log.specs.declared.events.TheConstants.{MAX_CAPACITY}
use Rattle.dd_log.specs.Events.{number_from, is_present, is_pointing}
use Rattle.dd_log.specs.History.{History, desk_mode, legal, any_presents, any_points}
use Rattle.dd_log.specs.Picture.{presents, picture, view}
use Rattle.dd_log.proofs.Legal.{has_room}
use Rattle.dd_log.proofs.Pictures.{goes_on}
use Rattle.dd_log.proofs.Shown.{legal_shows}
use Rattle.dd_dup.specs.News.{news, news_since, picture_news, dirt_of, info_from}
use Rattle.dd_dup.proofs.Entries.{presents-fit}
use Rattle.dd_record.specs.Writing.{KeepsInfo}
use Rattle.dd_record.specs.Frames.{PointersInRange, FramesKeepRules}
use Rattle.dd_record.proofs.FrameNumbers.{presents_counted, present_numbered, number_some, number_within}
use Rattle.dd_record.proofs.FramePointers.{pointer_fits, shape_keeps, shape_long, shape_numbered, range_later}
use Rattle.dd_record.proofs.FrameMoves.{few_moves, moves_inside}
use Rattle.dd_record.proofs.FrameDirt.{few_rects, rects_inside, dirt_listed, coalesced_some, news_some}
use Rattle.dd_record.proofs.FramePixels.{pixels_counted, pixels_are_colours}

-- one of two kinds came
some_of : (a b : Bool) (m n : ℕ) → (a || b) ≡ true → (a ≡ true → 1 ≤ m) → (b ≡ true → 1 ≤ n) → 1 ≤ m + n
some_of true b m n t first second = omega (arith, first refl)
some_of false b m n t first second = omega (arith, second t)

-- an event number of a legal list
number_few : (h : History) (is : Event → Bool) (mark : ℕ) → legal h ≡ true → 1 ≤ h.spec.capacity
    → h.spec.capacity ≤ MAX_CAPACITY → mark ≤ length h.entries
    → number_from is 0 mark (news h mark) ≤ MAX_CAPACITY
number_few h is mark t some few within =
    omega (
      arith,
      number_within is (news h mark) 0 mark (omega arith),
      length-drop mark h.entries,
      within,
      few,
      (has_room h t some).0,
    )

info_keeps :
    (h : History) (mark pointer_mark : ℕ) → legal h ≡ true → h.spec.capacity ≤ MAX_CAPACITY → 1 ≤ h.spec.capacity
    → mark ≤ length h.entries → pointer_mark ≤ length h.entries
    → (any_presents (news h mark) || any_points (news h pointer_mark)) ≡ true → PointersInRange h.entries
    → KeepsInfo (info_from (news_since h mark pointer_mark) (any_hidden (picture h)))
unfolding picture_news dirt_of
info_keeps h mark pointer_mark t few some within pointed fresh range =
    let mode : Mode = desk_mode h in
    let es : List Entry = news h mark in
    let ps : List (List Op) = presents es in
    let later : List Entry = news h pointer_mark in
    let pointer = pointer_fits h.spec.modes h.entries range in
    let above : 0 ≤ mark = omega arith in
    record {
      last_present = number_few h is_present mark t some few within;
      last_mouse = number_few h is_pointing pointer_mark t some few pointed;
      some = some_of (any_presents es) (any_points later) _ _ fresh (number_some is_present es 0 mark above)
          (number_some is_pointing later 0 pointer_mark (omega arith));
      accumulated = omega (arith, presents_counted es 0 mark above);
      presents = λ le. omega (arith, present_numbered es 0 mark le);
      coalesced = coalesced_some mode.width mode.height ps;
      news = news_some mode.width mode.height ps;
      shape = shape_numbered later pointer_mark;
      x = pointer.0;
      y = pointer.1;
    }

pub frames_keep_rules : FramesKeepRules
unfolding picture_news dirt_of
frames_keep_rules h mark pointer_mark t size few some none within pointed fresh range =
    let mode : Mode = desk_mode h in
    let es : List Entry = news h mark in
    let ps : List (List Op) = presents es in
    let rects : List Rect = canonical_list (dirt mode.width mode.height ps) in
    let later : List Entry = news h pointer_mark in
    let fit = presents-fit mode.width mode.height es ((goes_on h mark none).fit t) in
    record {
      info = info_keeps h mark pointer_mark t few some within pointed fresh range;
      meta = refl;
      shape_size = shape_long _;
      few_moves = few_moves ps;
      few_rects = few_rects mode.width mode.height ps size;
      moves = moves_inside mode.width mode.height ps size fit;
      rects = rects_inside mode.width mode.height ps size;
      dirt = dirt_listed mode.width mode.height ps;
      pixels = pixels_counted (view h) rects;
      colours = pixels_are_colours (view h) rects (legal_shows h size t).1;
      shape = shape_keeps later (range_later pointer_mark h.entries range);
    }
