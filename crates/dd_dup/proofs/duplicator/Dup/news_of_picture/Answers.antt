use Rattle.std.specs.Prelude.{IfOk, Result}
use Rattle.std.specs.declared.alloc.AllocError.{AllocError}
use Rattle.std.proofs.Common.{◌≡◌, ◌∙◌, sym, ap, subst, Bool, true, false, Ok, Err}
use Rattle.dd_geom.specs.Grid.{Grid}
use Rattle.dd_modes.specs.declared.modes.Mode.{Mode}
use Rattle.dd_log.specs.History.{first_entries, any_begins, entries_fit}
use Rattle.dd_log.specs.Picture.{picture}
use Rattle.dd_dup.specs.Dup.{value}
use Rattle.dd_dup.specs.Duplicator.{Duplicator}
use Rattle.dd_dup.specs.News.{news, picture_since}
use Rattle.dd_dup.specs.declared.frame.PictureNews.{PictureNews}
use Rattle.dd_dup.specs.Stands.{Stands}
use Rattle.dd_dup.proofs.Frames.{width-mark, height-mark, told_news}
use Rattle.dd_dup.proofs.duplicator.Dup.news_of_picture.Goals as goal

pub tell-requires-clause-width : goal.tell-requires-clause-width
tell-requires-clause-width c =
    let h = c.args.log.now in
    let stands : Stands (value c.self.inside) h =
    subst (λ (d : Duplicator). Stands d h) (sym c.self.view_is) c.requires.stands in
    let none : any_begins (news h c.self.inside.mark) ≡ false =
    subst (λ (d : Duplicator). any_begins (news h d.memory.mark) ≡ false) (sym c.self.view_is) c.requires.begins in
    ap (λ (g : Grid Bool). g.width) stands.hidden
    ∙ width-mark h c.self.inside.mark none
    ∙ ap (λ (m : Mode). m.width) (sym c.mode.ensures.value)

pub tell-requires-clause-height : goal.tell-requires-clause-height
tell-requires-clause-height c =
    let h = c.args.log.now in
    let stands : Stands (value c.self.inside) h =
    subst (λ (d : Duplicator). Stands d h) (sym c.self.view_is) c.requires.stands in
    let none : any_begins (news h c.self.inside.mark) ≡ false =
    subst (λ (d : Duplicator). any_begins (news h d.memory.mark) ≡ false) (sym c.self.view_is) c.requires.begins in
    ap (λ (g : Grid Bool). g.height) stands.hidden
    ∙ height-mark h c.self.inside.mark none
    ∙ ap (λ (m : Mode). m.height) (sym c.mode.ensures.value)

pub tell-requires-clause-fit : goal.tell-requires-clause-fit
tell-requires-clause-fit c =
    let h = c.args.log.now in
    let none : any_begins (news h c.self.inside.mark) ≡ false =
    subst (λ (d : Duplicator). any_begins (news h d.memory.mark) ≡ false) (sym c.self.view_is) c.requires.begins in
    subst (λ (m : Mode). entries_fit m.width m.height c.after-entries.result.now ≡ true) (sym c.mode.ensures.value)
    (c.after-entries.ensures.fit (ap any_begins c.after-entries.ensures.value ∙ none))

on_ok : (r : Result PictureNews AllocError) (P Q : PictureNews → Type 0) → ((n : PictureNews) → P n → Q n)
    → IfOk r P → IfOk r Q
on_ok (Ok n) P Q f p = f n p
on_ok (Err e) P Q f p = p

pub returns : goal.returns
returns c =
    let h = c.args.log.now in
    let d : Duplicator = value c.self.inside in
    let m = c.self.inside.mark in
    let stands : Stands d h = subst (λ (e : Duplicator). Stands e h) (sym c.self.view_is) c.requires.stands in
    let none : any_begins (news h m) ≡ false =
    subst (λ (e : Duplicator). any_begins (news h e.memory.mark) ≡ false) (sym c.self.view_is) c.requires.begins in
    subst (λ (e : Duplicator). IfOk c.tell.result (λ n. n ≡ picture_since h e.memory.mark)) c.self.view_is
    (on_ok c.tell.result _ (λ n. n ≡ picture_since h m)
    (λ n. told_news h m c.last_present-last_present.result c.mode.result c.after-entries.result.now n none
    c.after-entries.ensures.value c.mode.ensures.value c.last_present-last_present.ensures)
    (c.tell.ensures (picture (first_entries m h)) stands.hidden))
