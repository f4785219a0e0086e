-- The trees and the lines of some answers, computed.
use Rattle.std.proofs.Common.{◌≡◌, ℕ, List, pos, negsuc, true, false, [], ◌∷◌, codes, Some, None, refl}
use Rattle.serde_json.specs.Data.{boolean, number, unsigned, negative, array, object, item, no_items, member, no_members}
use Rattle.dd_geom.specs.declared.rect.Rect.{Rect}
use Rattle.dd_geom.specs.declared.rect.Move.{Move}
use Rattle.dd_modes.specs.declared.modes.Rotation.TheVariants.{Unspecified, Rotate270}
use Rattle.dd_pointer.specs.declared.shape.ShapeInfo.{ShapeInfo}
use Rattle.dd_calls.specs.declared.answers.FrameInfo.{FrameInfo}
use Rattle.dd_calls.specs.declared.answers.Answer.TheVariants as answer
use Rattle.dd_log.specs.declared.refusal.LogRefusal.TheVariants as drawing
use Rattle.dd_calls.specs.declared.answers.OpenRefusal.TheVariants as opening
use Rattle.dd_calls.specs.declared.answers.CloseRefusal.TheVariants as closing
use Rattle.dd_calls.specs.declared.answers.DupRefusal.TheVariants as call
use Rattle.dd_script_write.specs.Answers.{move_tree, answer_tree}
use Rattle.dd_script_write.specs.Texts.{line, text}
use Rattle.dd_script_write.proofs.OnLiterals.{answers_on_literals}

-- the first present, whose rectangle is two points wide and one high
abbrev told : FrameInfo
told =
    record {
      last_present = 2;
      last_mouse = 0;
      accumulated = 1;
      coalesced = false;
      protected = false;
      pointer = record { position = record { x = pos 0; y = pos 0 }; visible = false };
      meta_size = 16;
      shape_size = 0;
    }

abbrev filled : Rect
filled = record { left = pos 1; top = pos 1; right = pos 3; bottom = pos 2 }

-- a move from a point left of the surface and below its top
abbrev scrolled : Move
scrolled = record { source = record { x = negsuc 0; y = pos 3 }; dest = record { left = pos 2; top = pos 0; right = pos 4; bottom = pos 1 } }

-- the left half of a row, copied to the right half
abbrev moved : Move
moved = record { source = record { x = pos 0; y = pos 0 }; dest = record { left = pos 2; top = pos 0; right = pos 4; bottom = pos 1 } }

frame_of_a_present : answer_tree (answer.Frame told [] (filled ∷ []))
    ≡ object
    (member (codes "dirty")
    (array (item (array (item (number (unsigned 1)) (item (number (unsigned 1)) (item (number (unsigned 3)) (item (number (unsigned 2)) no_items))))) no_items))
    (member (codes "frame")
    (object
    (member (codes "accumulated") (number (unsigned 1))
    (member (codes "coalesced") (boolean false)
    (member (codes "meta") (number (unsigned 16))
    (member (codes "mouse") (number (unsigned 0))
    (member (codes "pointer") (array (item (number (unsigned 0)) (item (number (unsigned 0)) no_items)))
    (member (codes "present") (number (unsigned 2))
    (member (codes "protected") (boolean false)
    (member (codes "shape") (number (unsigned 0))
    (member (codes "visible") (boolean false) no_members))))))))))
    (member (codes "moves") (array no_items) no_members)))
unfolding answers_on_literals
frame_of_a_present = refl

move_from_outside : move_tree scrolled
    ≡ array
    (item (number (negative (negsuc 0))) (item (number (unsigned 3))
    (item (number (unsigned 2)) (item (number (unsigned 0)) (item (number (unsigned 4)) (item (number (unsigned 1)) no_items))))))
unfolding answers_on_literals
move_from_outside = refl

-- a frame with a move and a dirty rectangle
line_of_a_frame : line (answer.Frame (record told { meta_size = 40 }) (moved ∷ []) (filled ∷ [])) ≡ codes "{\"dirty\":[[1,1,3,2]],\"frame\":{\"accumulated\":1,\"coalesced\":false,\"meta\":40,\"mouse\":0,\"pointer\":[0,0],\"present\":2,\"protected\":false,\"shape\":0,\"visible\":false},\"moves\":[[0,0,2,0,4,1]]}\n"
unfolding answers_on_literals
line_of_a_frame = refl

-- a frame of the pointer alone: the last shape of four bytes, and where the pointer is shown
abbrev pointed : FrameInfo
pointed =
    record {
      last_present = 0;
      last_mouse = 3;
      accumulated = 0;
      coalesced = false;
      protected = false;
      pointer = record { position = record { x = negsuc 4; y = pos 2 }; visible = true };
      meta_size = 0;
      shape_size = 4;
    }

line_of_a_pointer : line (answer.Frame pointed [] [])
    ≡ codes "{\"dirty\":[],\"frame\":{\"accumulated\":0,\"coalesced\":false,\"meta\":0,\"mouse\":3,\"pointer\":[-5,2],\"present\":0,\"protected\":false,\"shape\":4,\"visible\":true},\"moves\":[]}\n"
unfolding answers_on_literals
line_of_a_pointer = refl

-- a shape of two columns under masks of two rows
abbrev arrow : ShapeInfo
arrow = record { kind = 1; width = 2; height = 4; pitch = 1; hot = record { x = negsuc 0; y = pos 3 } }

-- a buffer with a rectangle in front, and one with that shape
abbrev of_a_rectangle : List ℕ
of_a_rectangle =
    1 ∷ 0 ∷ 0 ∷ 0 ∷ 1 ∷ 0 ∷ 0 ∷ 0 ∷ 3 ∷ 0 ∷ 0 ∷ 0 ∷ 2 ∷ 0 ∷ 0 ∷ 0 ∷ 238 ∷ 238 ∷ 238 ∷ 238 ∷ []

abbrev of_an_arrow : List ℕ
of_an_arrow = 0xc0 ∷ 0 ∷ 0x80 ∷ 0x80 ∷ 238 ∷ []

-- an empty buffer, these two, and one of no new shape
lines_of_buffers : text
    (answer.Buffer 0 [] ∷ answer.Buffer 16 of_a_rectangle
    ∷ answer.ShapeBuffer 4 of_an_arrow (Some arrow) ∷ answer.ShapeBuffer 0 (238 ∷ []) None ∷ [])
    ≡ codes "{\"buffer\":\"\",\"size\":0}\n{\"buffer\":\"01000000010000000300000002000000eeeeeeee\",\"size\":16}\n{\"buffer\":\"c0008080ee\",\"info\":{\"height\":4,\"hot\":[-1,3],\"kind\":1,\"pitch\":1,\"width\":2},\"size\":4}\n{\"buffer\":\"ee\",\"info\":null,\"size\":0}\n"
unfolding answers_on_literals
lines_of_buffers = refl

-- answers, and the text of each of them
lines_of_accepted_calls : text (answer.Entered 2 ∷ answer.Opened 1 3 ∷ answer.Closed 4 ∷ answer.Released ∷ answer.Surface None ∷ answer.Surface (Some ((0xff8001 ∷ 255 ∷ []) ∷ [])) ∷ [])
    ≡ codes "{\"entry\":2}\n{\"entry\":1,\"slot\":3}\n{\"entry\":4}\n{\"released\":true}\n{\"surface\":null}\n{\"surface\":[\"ff80010000ff\"]}\n"
unfolding answers_on_literals
lines_of_accepted_calls = refl

lines_of_modes : text (answer.Desc (record { width = 8192; height = 2048; rotation = Rotate270 }) ∷ answer.Desc (record { width = 4; height = 3; rotation = Unspecified }) ∷ [])
    ≡ codes "{\"height\":2048,\"rotation\":4,\"width\":8192}\n{\"height\":3,\"rotation\":0,\"width\":4}\n"
unfolding answers_on_literals
lines_of_modes = refl

lines_of_refused_drawings : text (answer.NotDrawn drawing.Ended ∷ answer.NotDrawn drawing.Full ∷ answer.NotDrawn drawing.BadMode ∷ answer.NotDrawn (drawing.BadRect 5) ∷ [])
    ≡ codes "{\"refused\":\"Ended\"}\n{\"refused\":\"Full\"}\n{\"code\":\"80070057\",\"refused\":\"BadMode\"}\n{\"code\":\"80070057\",\"op\":5,\"refused\":\"BadRect\"}\n"
unfolding answers_on_literals
lines_of_refused_drawings = refl

lines_of_refused_openings : text (answer.NotOpened opening.SessionDisconnected ∷ answer.NotOpened opening.AccessDenied ∷ answer.NotOpened opening.AlreadyDuplicating ∷ answer.NotOpened opening.NotAvailable ∷ answer.NotOpened opening.Full ∷ [])
    ≡ codes "{\"code\":\"887a0028\",\"refused\":\"SessionDisconnected\"}\n{\"code\":\"80070005\",\"refused\":\"AccessDenied\"}\n{\"code\":\"80070057\",\"refused\":\"AlreadyDuplicating\"}\n{\"code\":\"887a0022\",\"refused\":\"NotAvailable\"}\n{\"refused\":\"Full\"}\n"
unfolding answers_on_literals
lines_of_refused_openings = refl

lines_of_refused_closings : text (answer.NotClosed closing.NoDuplicator ∷ answer.NotClosed closing.Ended ∷ answer.NotClosed closing.Full ∷ [])
    ≡ codes "{\"refused\":\"NoDuplicator\"}\n{\"refused\":\"Ended\"}\n{\"refused\":\"Full\"}\n"
unfolding answers_on_literals
lines_of_refused_closings = refl

-- a lost duplicator, with a buffer of two bytes that stays as it was and without
lines_of_refused_calls : text (answer.Refused call.AccessLost (Some (238 ∷ 238 ∷ [])) ∷ answer.Refused call.AccessLost None ∷ answer.Refused call.InvalidCall None ∷ answer.Refused call.InvalidCall (Some (238 ∷ 1 ∷ [])) ∷ answer.Refused call.WaitTimeout None ∷ answer.Refused (call.MoreData 16) (Some (238 ∷ 238 ∷ [])) ∷ answer.Refused call.OutOfMemory None ∷ answer.NoDuplicator ∷ [])
    ≡ codes "{\"buffer\":\"eeee\",\"code\":\"887a0026\",\"refused\":\"AccessLost\"}\n{\"code\":\"887a0026\",\"refused\":\"AccessLost\"}\n{\"code\":\"887a0001\",\"refused\":\"InvalidCall\"}\n{\"buffer\":\"ee01\",\"code\":\"887a0001\",\"refused\":\"InvalidCall\"}\n{\"code\":\"887a0027\",\"refused\":\"WaitTimeout\"}\n{\"buffer\":\"eeee\",\"code\":\"887a0003\",\"refused\":\"MoreData\",\"required\":16}\n{\"refused\":\"OutOfMemory\"}\n{\"refused\":\"NoDuplicator\"}\n"
unfolding answers_on_literals
lines_of_refused_calls = refl
