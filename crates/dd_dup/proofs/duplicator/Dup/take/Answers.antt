-- The entries from the mark on bring the surface and the hidden points to the desk's.
use Rattle.std.proofs.Common.{false, ◌≡◌, ◌+◌, ◌∙◌, ℕ, List, sym, ap, subst, length}
use Rattle.std.proofs.lemmas.List.{length-drop}
use Rattle.dd_geom.specs.Grid.{Grid}
use Rattle.dd_log.specs.declared.events.Entry.{Entry}
use Rattle.dd_log.specs.History.{first_entries, any_begins}
use Rattle.dd_log.specs.Picture.{picture}
use Rattle.dd_dup.specs.declared.frame.Frame.{Frame}
use Rattle.dd_dup.specs.declared.frame.News.{News}
use Rattle.dd_dup.specs.Dup.{value}
use Rattle.dd_dup.specs.Duplicator.{Duplicator, holding}
use Rattle.dd_dup.specs.News.{frame, news}
use Rattle.dd_dup.specs.Reply.{Memory}
use Rattle.dd_dup.specs.Stands.{Stands}
use Rattle.dd_dup.proofs.Frames.{frame_made, hidden_news, holds, seen_forward, whole-picture, width-mark, height-mark}
use Rattle.dd_dup.proofs.duplicator.Dup.take.Goals as goal

pub draw_entries-requires : goal.draw_entries-requires
draw_entries-requires c =
    let h = c.args.log.now in
    let stands : Stands (value c.self.inside) h =
    subst (λ (d : Duplicator). Stands d h) (sym c.self.view_is) c.requires.stands in
    let none : any_begins (news h c.self.inside.mark) ≡ false =
    subst (λ (d : Duplicator). any_begins (news h d.memory.mark) ≡ false) (sym c.self.view_is) c.requires.begins in
    let wide = ap (λ (g : Grid ℕ). g.width) stands.surface ∙ width-mark h c.self.inside.mark none in
    let high = ap (λ (g : Grid ℕ). g.height) stands.surface ∙ height-mark h c.self.inside.mark none in
    rw (wide, high) (c.after-entries.ensures.fit (ap any_begins c.after-entries.ensures.value ∙ none))

made : goal.returns-clause-info
made c =
    ap (λ (f : Frame). f.info)
    (c.frame_of-frame.ensures.frame (picture c.args.log.now) (whole-picture c.args.log.now)
    (ap (λ (n : News). n.picture.hidden) c.requires.next ∙ hidden_news c.args.log.now c.args.self.now.memory.mark
    c.args.self.now.memory.pointer_mark)
    ∙ frame_made c.args.log.now c.args.self.now.memory.mark c.args.self.now.memory.pointer_mark c.args.next
    c.requires.next)

pub returns-clause-info : goal.returns-clause-info
returns-clause-info c = made c

pub returns-clause-held : goal.returns-clause-held
returns-clause-held c =
    let h = c.args.log.now in
    let d : Duplicator = value c.self.inside in
    let stands : Stands d h = subst (λ (e : Duplicator). Stands e h) (sym c.self.view_is) c.requires.stands in
    let none : any_begins (news h c.self.inside.mark) ≡ false =
    subst (λ (e : Duplicator). any_begins (news h e.memory.mark) ≡ false) (sym c.self.view_is) c.requires.begins in
    let memory_is : c.args.self.now.memory ≡ d.memory = ap (λ (e : Duplicator). e.memory) (sym c.self.view_is) in
    let hidden_is = ap (λ (n : News). n.picture.hidden) c.requires.next
    ∙ hidden_news h c.args.self.now.memory.mark c.args.self.now.memory.pointer_mark in
    holds d h c.len-self-inside.result c.frame_of-frame.result.0 c.draw_entries.new.surface c.frame_of-frame.result.1 _
    c.len-self-inside.ensures.len
    (c.frame_of-frame.ensures.frame (picture h) (whole-picture h) hidden_is
    ∙ frame_made h c.args.self.now.memory.mark c.args.self.now.memory.pointer_mark c.args.next c.requires.next
    ∙ ap (λ (m : Memory). frame h m.mark m.pointer_mark) memory_is)
    (c.draw_entries.ensures.drawn (picture (first_entries c.self.inside.mark h)) stands.surface
    ∙ seen_forward h c.self.inside.mark c.after-entries.result.now none c.after-entries.ensures.value)
    (c.frame_of-frame.ensures.hidden ∙ hidden_is)
    (ap (λ n. c.self.inside.folded + n)
    (ap (λ (es : List Entry). length es) c.after-entries.ensures.value ∙ length-drop c.self.inside.mark h.entries))
    ∙ ap (λ (e : Duplicator). holding e h) c.self.view_is
