-- The text of some trees that scripts and counts have of their own.
use Rattle.std.proofs.Common.{◌≡◌, [], ◌∷◌, true, false, codes, refl, pos, negsuc}
use Rattle.serde_json.specs.Written.{compact_text}
use Rattle.dd_modes.specs.declared.modes.Rotation.TheVariants.{Identity}
use Rattle.dd_pointer.specs.declared.kind.Kind.TheVariants.{MaskedColor}
use Rattle.dd_ops.specs.declared.operations.Op.TheVariants.{Fill, Blit, Cover, Scroll}
use Rattle.dd_log.specs.declared.events.Draw.TheVariants.{Present, Switch, Disconnect, Reconnect}
use Rattle.dd_log.specs.declared.events.Draw.TheVariants as drawings
use Rattle.dd_calls.specs.declared.steps.ClientCall.TheVariants.{Duplicate, Close, Acquire, Release, Moves, Dirty, Shape, Surface, Desc}
use Rattle.dd_calls.specs.declared.steps.Step.TheVariants.{Draw, Call}
use Rattle.dd_calls.specs.declared.steps.Script.{Script}
use Rattle.dd_script_write.proofs.OnLiterals.{answers_on_literals}
use Rattle.dd_script_write.specs.Texts.{counts_tree, counts_line}
use Rattle.dd_script_write.specs.Spelling.{op_tree, shape_step_tree, draw_tree, step_tree, mode_tree, spelling}

-- a script that names each kind of drawing and of operation, and each call
abbrev pub each_kind : Script
each_kind =
    record {
      spec = record { modes = record { width = 4; height = 3; rotation = Identity } ∷ []; capacity = 100; privileged = 7 ∷ [] };
      clients = 1 ∷ 4294967295 ∷ [];
      steps = Call 1 Duplicate
          ∷ Draw (Present
          (Fill (record { left = pos 1; top = pos 2; right = pos 3; bottom = pos 4 }) 0xff8001
          ∷ Blit (record { left = negsuc 4; top = pos 7; right = pos 9; bottom = pos 8 }) (255 ∷ 0x010203 ∷ [])
          ∷ Cover (record { left = pos 10; top = pos 11; right = pos 12; bottom = negsuc 12 }) (0xabcdef ∷ [])
          ∷ Scroll (record { source = record { x = pos 5; y = pos 6 }; dest = record { left = pos 1; top = pos 0; right = pos 2; bottom = pos 9 } })
          ∷ []))
          ∷ Draw (drawings.Mode 4294967295) ∷ Draw (Switch false) ∷ Draw (Switch true) ∷ Draw Disconnect ∷ Draw Reconnect
          ∷ Draw (drawings.Pointer (record { x = negsuc 0; y = pos 2 }) true)
          ∷ Draw (drawings.Shape (record {
            kind = MaskedColor;
            width = 1;
            height = 2;
            hot = record { x = pos 3; y = negsuc 3 };
            bytes = 1 ∷ 2 ∷ 254 ∷ 255 ∷ 5 ∷ 6 ∷ 7 ∷ 0 ∷ [];
          }))
          ∷ Call 1 (Moves 524288) ∷ Call 2 (Dirty 0) ∷ Call 1 (Shape 7)
          ∷ Call 2 (Acquire 0) ∷ Call 1 Release ∷ Call 1 Surface ∷ Call 1 Desc ∷ Call 2 Close ∷ [];
    }

text_of_each_kind : compact_text (spelling each_kind)
    ≡ codes "{\"capacity\":100,\"clients\":[1,4294967295],\"modes\":[[4,3,1]],\"privileged\":[7],\"steps\":[{\"call\":\"duplicate\",\"client\":1},{\"present\":[{\"colour\":\"ff8001\",\"fill\":[1,2,3,4]},{\"blit\":[-5,7,9,8],\"colours\":\"0000ff010203\"},{\"colours\":\"abcdef\",\"cover\":[10,11,12,-13]},{\"from\":[5,6],\"scroll\":[1,0,2,9]}]},{\"mode\":4294967295},{\"switch\":false},{\"switch\":true},{\"disconnect\":true},{\"reconnect\":true},{\"pointer\":[-1,2],\"visible\":true},{\"bytes\":\"0102feff05060700\",\"height\":2,\"hot\":[3,-4],\"shape\":4,\"width\":1},{\"buffer\":524288,\"call\":\"moves\",\"client\":1},{\"buffer\":0,\"call\":\"dirty\",\"client\":2},{\"buffer\":7,\"call\":\"shape\",\"client\":1},{\"call\":\"acquire\",\"client\":2},{\"call\":\"release\",\"client\":1},{\"call\":\"surface\",\"client\":1},{\"call\":\"desc\",\"client\":1},{\"call\":\"close\",\"client\":2}]}"
unfolding answers_on_literals spelling mode_tree step_tree draw_tree shape_step_tree op_tree
text_of_each_kind = refl

line_of_counts : counts_line (record {
  acquired = 387;
  coalesced = 0;
  entries = 406;
  frames = 900;
  moves = 180;
  rects = 18446744073709551615;
  refused = 0;
  steps = 1180;
})
    ≡ codes "{\"acquired\":387,\"coalesced\":0,\"entries\":406,\"frames\":900,\"moves\":180,\"rects\":18446744073709551615,\"refused\":0,\"steps\":1180}\n"
unfolding answers_on_literals counts_line counts_tree
line_of_counts = refl
