-- Texts that are scripts or parts of scripts, and texts that are none, each read by the definitions.
use Rattle.std.proofs.Common.{◌≡◌, ℕ, Bool, true, false, List, [], ◌∷◌, Option, Some, refl, codes, option_and_then, pos, negsuc, replicate}
use Rattle.std.specs.Prelude.{is_none, is_some}
use Rattle.std.specs.List.{list_all}
use Rattle.serde_json.specs.Data.{Data, array}
use Rattle.serde_json.specs.Read.{read}
use Rattle.serde_json.specs.View.{items_of}
use Rattle.dd_modes.specs.declared.modes.Rotation.TheVariants.{Identity, Rotate90, Rotate270}
use Rattle.dd_pointer.specs.declared.kind.Kind.TheVariants.{Monochrome, MaskedColor}
use Rattle.dd_ops.specs.declared.operations.Op.TheVariants.{Fill, Blit, Cover, Scroll}
use Rattle.dd_log.specs.declared.events.Draw.TheVariants.{Present, Switch, Disconnect, Reconnect}
use Rattle.dd_log.specs.declared.events.Draw.TheVariants as drawings
use Rattle.dd_calls.specs.declared.steps.ClientCall.TheVariants.{Duplicate, Close, Acquire, Moves, Dirty, Shape, Surface, Desc}
use Rattle.dd_calls.specs.declared.steps.Step.TheVariants.{Draw, Call}
use Rattle.dd_calls.specs.declared.steps.Script.{Script}
use Rattle.dd_script_read.specs.Script.{rect_of, colour_of, operation_of, operations_of, draw_of, step_of, steps_of, modes_of, script_of}
use Rattle.dd_script_read.proofs.OnLiterals.{script_on_literals}

-- what a text is, where its tree is read by f
abbrev read_by : {A : Type 0} → (Data → Option A) → List ℕ → Option A
read_by f text = option_and_then f (read text)

-- none of the texts is read by f
abbrev are_refused : {A : Type 0} → (Data → Option A) → List (List ℕ) → Bool
are_refused f texts = list_all (λ text. is_none (read_by f text)) texts

-- the script of a text
abbrev read_text : List ℕ → Option Script
read_text text = read_by script_of text

-- ---- whole scripts

one_frame : read_text (codes "{\"modes\":[[4,3,1]],\"capacity\":100,\"privileged\":[],\"clients\":[1],\"steps\":[{\"client\":1,\"call\":\"duplicate\"},{\"present\":[{\"fill\":[1,1,3,2],\"colour\":\"ff0000\"}]},{\"client\":1,\"call\":\"acquire\"},{\"client\":1,\"call\":\"surface\"}]}")
    ≡ Some (record {
      spec = record { modes = record { width = 4; height = 3; rotation = Identity } ∷ []; capacity = 100; privileged = [] };
      clients = 1 ∷ [];
      steps = Call 1 Duplicate ∷ Draw (Present (Fill (record { left = pos 1; top = pos 1; right = pos 3; bottom = pos 2 }) 0xff0000 ∷ [])) ∷ Call 1 (Acquire 0) ∷ Call 1 Surface ∷ [];
    })
unfolding script_on_literals
one_frame = refl

-- a script of no step, its keys in another order
no_step : read_text (codes "{\"steps\":[],\"clients\":[4294967295],\"privileged\":[],\"capacity\":1,\"modes\":[[1,1,1]]}")
    ≡ Some (record {
      spec = record { modes = record { width = 1; height = 1; rotation = Identity } ∷ []; capacity = 1; privileged = [] };
      clients = 4294967295 ∷ [];
      steps = [];
    })
unfolding script_on_literals
no_step = refl

-- two modes, a privileged application and two clients: a secure desktop, and a session that is disconnected
two_clients : read_text (codes "{\"modes\":[[4,3,1],[3,4,2]],\"capacity\":100,\"privileged\":[9],\"clients\":[1,9],\"steps\":[{\"switch\":true},{\"client\":1,\"call\":\"duplicate\"},{\"client\":2,\"call\":\"duplicate\"},{\"disconnect\":true},{\"client\":1,\"call\":\"duplicate\"},{\"client\":2,\"call\":\"acquire\"}]}")
    ≡ Some (record {
      spec = record { modes = record { width = 4; height = 3; rotation = Identity } ∷ record { width = 3; height = 4; rotation = Rotate90 } ∷ []; capacity = 100; privileged = 9 ∷ [] };
      clients = 1 ∷ 9 ∷ [];
      steps = Draw (Switch true) ∷ Call 1 Duplicate ∷ Call 2 Duplicate ∷ Draw Disconnect ∷ Call 1 Duplicate ∷ Call 2 (Acquire 0) ∷ [];
    })
unfolding script_on_literals
two_clients = refl

-- rectangles that lie outside the mode, and too few colours, are a script
drawn_outside : read_text (codes "{\"modes\":[[2,1,1]],\"capacity\":9,\"privileged\":[],\"clients\":[1],\"steps\":[{\"client\":1,\"call\":\"duplicate\"},{\"present\":[{\"fill\":[0,0,3,1],\"colour\":\"000000\"},{\"blit\":[-5,7,9,8],\"colours\":\"0000ff\"},{\"scroll\":[1,0,0,9],\"from\":[0,3]}]}]}")
    ≡ Some (record {
      spec = record { modes = record { width = 2; height = 1; rotation = Identity } ∷ []; capacity = 9; privileged = [] };
      clients = 1 ∷ [];
      steps = Call 1 Duplicate
          ∷ Draw (Present
          (Fill (record { left = pos 0; top = pos 0; right = pos 3; bottom = pos 1 }) 0
          ∷ Blit (record { left = negsuc 4; top = pos 7; right = pos 9; bottom = pos 8 }) (255 ∷ [])
          ∷ Scroll (record { source = record { x = pos 0; y = pos 3 }; dest = record { left = pos 1; top = pos 0; right = pos 0; bottom = pos 9 } })
          ∷ []))
          ∷ [];
    })
unfolding script_on_literals
drawn_outside = refl

no_json : list_all (λ text. is_none (read text)) (codes "" ∷ codes "{} {}" ∷ codes "{\"steps\":[]" ∷ []) ≡ true
unfolding script_on_literals
no_json = refl

no_scripts : are_refused script_of
    (codes "[]"
    -- a part is missing, a further key
    ∷ codes "{\"modes\":[[1,1,1]],\"capacity\":9,\"privileged\":[],\"clients\":[1]}"
    ∷ codes "{\"modes\":[[1,1,1]],\"capacity\":9,\"privileged\":[],\"clients\":[1],\"steps\":[],\"more\":0}"
    -- a capacity with a fraction, with an exponent, of nothing, past the greatest
    ∷ codes "{\"modes\":[[1,1,1]],\"capacity\":10.0,\"privileged\":[],\"clients\":[1],\"steps\":[]}"
    ∷ codes "{\"modes\":[[1,1,1]],\"capacity\":1e1,\"privileged\":[],\"clients\":[1],\"steps\":[]}"
    ∷ codes "{\"modes\":[[1,1,1]],\"capacity\":0,\"privileged\":[],\"clients\":[1],\"steps\":[]}"
    ∷ codes "{\"modes\":[[1,1,1]],\"capacity\":1048577,\"privileged\":[],\"clients\":[1],\"steps\":[]}"
    -- no client, seventeen of them, seventeen privileged applications
    ∷ codes "{\"modes\":[[1,1,1]],\"capacity\":9,\"privileged\":[],\"clients\":[],\"steps\":[]}"
    ∷ codes "{\"modes\":[[1,1,1]],\"capacity\":9,\"privileged\":[],\"clients\":[1,2,3,4,5,6,7,8,9,1,2,3,4,5,6,7,8],\"steps\":[]}"
    ∷ codes "{\"modes\":[[1,1,1]],\"capacity\":9,\"privileged\":[1,2,3,4,5,6,7,8,9,1,2,3,4,5,6,7,8],\"clients\":[1],\"steps\":[]}"
    -- a client past the last, client 0
    ∷ codes "{\"modes\":[[2,1,1]],\"capacity\":9,\"privileged\":[],\"clients\":[1],\"steps\":[{\"client\":2,\"call\":\"close\"}]}"
    ∷ codes "{\"modes\":[[2,1,1]],\"capacity\":9,\"privileged\":[],\"clients\":[1],\"steps\":[{\"client\":0,\"call\":\"desc\"}]}"
    ∷ []) ≡ true
unfolding script_on_literals
no_scripts = refl

-- ---- numbers, rectangles and colours

-- the ends of the coordinates' range
widest_rectangle : read_by rect_of (codes "[-2147483648,-1,2147483647,0]")
    ≡ Some (record { left = negsuc 2147483647; top = negsuc 0; right = pos 2147483647; bottom = pos 0 })
unfolding script_on_literals
widest_rectangle = refl

-- the first numbers past them, minus zero (which is read as a fraction is), three sides and five
no_rectangles : are_refused rect_of
    (codes "[0,0,2147483648,1]" ∷ codes "[-2147483649,0,1,1]" ∷ codes "[-0,0,1,1]" ∷ codes "[0,0,1]" ∷ codes "[0,0,1,1,1]"
    ∷ codes "{}" ∷ []) ≡ true
unfolding script_on_literals
no_rectangles = refl

either_case : read_by colour_of (codes "\"fF8Aa0\"") ≡ Some 0xff8aa0
unfolding script_on_literals
either_case = refl

-- five digits, seven, eight, and a letter that is no digit
no_colours : are_refused colour_of
    (codes "\"fF8Aa\"" ∷ codes "\"fF8Aa00\"" ∷ codes "\"fF8Aa000\"" ∷ codes "\"abcdeg\"" ∷ codes "0" ∷ []) ≡ true
unfolding script_on_literals
no_colours = refl

-- the greatest mode, and one with too many pixels, a fifth rotation, no side, no mode, and seventeen
greatest_mode : read_by modes_of (codes "[[8192,2048,4]]") ≡ Some (record { width = 8192; height = 2048; rotation = Rotate270 } ∷ [])
unfolding script_on_literals
greatest_mode = refl

no_modes : are_refused modes_of
    (codes "[[8192,2049,4]]" ∷ codes "[[8193,1,0]]" ∷ codes "[[1,1,5]]" ∷ codes "[[0,1,1]]" ∷ codes "[[1,1]]" ∷ codes "[]"
    ∷ codes "[[1,1,0],[1,1,0],[1,1,0],[1,1,0],[1,1,0],[1,1,0],[1,1,0],[1,1,0],[1,1,0],[1,1,0],[1,1,0],[1,1,0],[1,1,0],[1,1,0],[1,1,0],[1,1,0],[1,1,0]]"
    ∷ []) ≡ true
unfolding script_on_literals
no_modes = refl

-- ---- operations

two_colours : read_by operation_of (codes "{\"blit\":[1,0,3,1],\"colours\":\"fF8001000102\"}")
    ≡ Some (Blit (record { left = pos 1; top = pos 0; right = pos 3; bottom = pos 1 }) (0xff8001 ∷ 0x000102 ∷ []))
unfolding script_on_literals
two_colours = refl

no_colour : read_by operation_of (codes "{\"colours\":\"\",\"blit\":[1,0,3,1]}")
    ≡ Some (Blit (record { left = pos 1; top = pos 0; right = pos 3; bottom = pos 1 }) [])
unfolding script_on_literals
no_colour = refl

-- a cover's sides, each another number
covered : read_by operation_of (codes "{\"cover\":[1,2,3,4],\"colours\":\"00FF00\"}")
    ≡ Some (Cover (record { left = pos 1; top = pos 2; right = pos 3; bottom = pos 4 }) (0x00ff00 ∷ []))
unfolding script_on_literals
covered = refl

scroll_from_outside : read_by operation_of (codes "{\"scroll\":[-2,-1,4,3],\"from\":[-2147483648,5]}")
    ≡ Some (Scroll (record {
      source = record { x = negsuc 2147483647; y = pos 5 };
      dest = record { left = negsuc 1; top = negsuc 0; right = pos 4; bottom = pos 3 };
    }))
unfolding script_on_literals
scroll_from_outside = refl

no_operations : are_refused operation_of
    -- a third key, one key, a word that names no operation, the parts of two kinds
    (codes "{\"fill\":[0,0,4,3],\"colour\":\"000000\",\"from\":[0,0]}"
    ∷ codes "{\"scroll\":[0,0,4,3],\"from\":[0,0],\"at\":0}"
    ∷ codes "{\"drop\":[0,0,1,1]}"
    ∷ codes "{\"scroll\":[0,0,1,1]}"
    ∷ codes "{\"blit\":[0,0,1,1],\"colour\":\"abcdef\"}"
    ∷ codes "{\"fill\":[0,0,1,1],\"blit\":[0,0,1,1]}"
    ∷ codes "{\"cover\":[0,0,1,1],\"colour\":\"abcdef\"}"
    ∷ codes "{\"cover\":[0,0,1,1],\"colours\":\"abcdef\",\"from\":[0,0]}"
    ∷ codes "{\"cover\":[0,0,1,1],\"colours\":\"abcde\"}"
    -- seven digits, eight and ten, and one that is none
    ∷ codes "{\"blit\":[0,0,2,1],\"colours\":\"abcdef0\"}"
    ∷ codes "{\"blit\":[0,0,2,1],\"colours\":\"abcdef00\"}"
    ∷ codes "{\"blit\":[0,0,2,1],\"colours\":\"abcdef0000\"}"
    ∷ codes "{\"blit\":[0,0,2,1],\"colours\":\"abcdef00000x\"}"
    -- a point of one number, of three, and past the greatest coordinate
    ∷ codes "{\"scroll\":[0,0,4,3],\"from\":[1]}"
    ∷ codes "{\"scroll\":[0,0,4,3],\"from\":[1,2,3]}"
    ∷ codes "{\"scroll\":[0,0,4,3],\"from\":[2147483648,0]}"
    ∷ []) ≡ true
unfolding script_on_literals
no_operations = refl

-- a list of so many equal fills
abbrev fills : ℕ → Option Data
fills n = option_and_then (λ d. Some (array (items_of (replicate n d)))) (read (codes "{\"fill\":[0,0,1,1],\"colour\":\"0000ff\"}"))

most_operations : is_some (option_and_then operations_of (fills 64)) ≡ true
unfolding script_on_literals
most_operations = refl

one_too_many : is_none (option_and_then operations_of (fills 65)) ≡ true
unfolding script_on_literals
one_too_many = refl

-- ---- steps

no_operation : read_by step_of (codes "{\"present\":[]}") ≡ Some (Draw (Present []))
unfolding script_on_literals
no_operation = refl

-- the pointer, at the ends of the coordinates' range
pointer_given : read_by draw_of (codes "{\"pointer\":[-2147483648,2147483647],\"visible\":false}")
    ≡ Some (drawings.Pointer (record { x = negsuc 2147483647; y = pos 2147483647 }) false)
unfolding script_on_literals
pointer_given = refl

-- two columns of two rows under two masks, and a pixel with its mask: each number is another one
masks_of_two_rows : read_by draw_of (codes "{\"shape\":1,\"width\":2,\"height\":4,\"hot\":[1,3],\"bytes\":\"C0008080\"}")
    ≡ Some (drawings.Shape (record {
      kind = Monochrome;
      width = 2;
      height = 4;
      hot = record { x = pos 1; y = pos 3 };
      bytes = 0xc0 ∷ 0 ∷ 0x80 ∷ 0x80 ∷ [];
    }))
unfolding script_on_literals
masks_of_two_rows = refl

masked_pixel : read_by draw_of (codes "{\"bytes\":\"0102fEff\",\"height\":1,\"hot\":[-1,-2],\"width\":1,\"shape\":4}")
    ≡ Some (drawings.Shape (record {
      kind = MaskedColor;
      width = 1;
      height = 1;
      hot = record { x = negsuc 0; y = negsuc 1 };
      bytes = 1 ∷ 2 ∷ 254 ∷ 255 ∷ [];
    }))
unfolding script_on_literals
masked_pixel = refl

-- a kind, a width and heights that no shape has, three bytes and five, seven digits, one that is none, a bad mask
no_shapes : are_refused draw_of
    (codes "{\"shape\":3,\"width\":2,\"height\":4,\"hot\":[1,3],\"bytes\":\"c0008080\"}"
    ∷ codes "{\"shape\":1,\"width\":257,\"height\":4,\"hot\":[1,3],\"bytes\":\"c0008080\"}"
    ∷ codes "{\"shape\":1,\"width\":2,\"height\":3,\"hot\":[1,3],\"bytes\":\"c00080\"}"
    ∷ codes "{\"shape\":1,\"width\":2,\"height\":0,\"hot\":[1,3],\"bytes\":\"\"}"
    ∷ codes "{\"shape\":1,\"width\":2,\"height\":4,\"hot\":[1,3],\"bytes\":\"c00080\"}"
    ∷ codes "{\"shape\":1,\"width\":2,\"height\":4,\"hot\":[1,3],\"bytes\":\"c000808000\"}"
    ∷ codes "{\"shape\":1,\"width\":2,\"height\":4,\"hot\":[1,3],\"bytes\":\"c000808\"}"
    ∷ codes "{\"shape\":1,\"width\":2,\"height\":4,\"hot\":[1,3],\"bytes\":\"c000808x\"}"
    ∷ codes "{\"shape\":4,\"width\":1,\"height\":1,\"hot\":[1,3],\"bytes\":\"0f0f0f01\"}"
    -- a kind past the greatest number, a hot spot of one number, bytes that are no text, four keys, six
    ∷ codes "{\"shape\":4294967297,\"width\":2,\"height\":4,\"hot\":[1,3],\"bytes\":\"c0008080\"}"
    ∷ codes "{\"shape\":1,\"width\":2,\"height\":4,\"hot\":[1],\"bytes\":\"c0008080\"}"
    ∷ codes "{\"shape\":1,\"width\":2,\"height\":4,\"hot\":[1,3],\"bytes\":0}"
    ∷ codes "{\"shape\":1,\"width\":2,\"height\":4,\"bytes\":\"c0008080\"}"
    ∷ codes "{\"shape\":1,\"width\":2,\"height\":4,\"hot\":[1,3],\"bytes\":\"c0008080\",\"visible\":true}"
    ∷ []) ≡ true
unfolding script_on_literals
no_shapes = refl

-- what is drawn beside presents, and calls anywhere in a list
steps_of_each_kind : read_by steps_of (codes "[{\"mode\":4294967295},{\"switch\":false},{\"disconnect\":true},{\"reconnect\":true},{\"call\":\"close\",\"client\":16},{\"client\":2,\"call\":\"desc\"},{\"client\":1,\"call\":\"duplicate\"},{\"pointer\":[3,2],\"visible\":true},{\"client\":3,\"call\":\"moves\",\"buffer\":0},{\"buffer\":15,\"call\":\"dirty\",\"client\":4},{\"client\":5,\"call\":\"shape\",\"buffer\":524288}]")
    ≡ Some
    (Draw (drawings.Mode 4294967295) ∷ Draw (Switch false) ∷ Draw Disconnect ∷ Draw Reconnect
    ∷ Call 16 Close ∷ Call 2 Desc ∷ Call 1 Duplicate
    ∷ Draw (drawings.Pointer (record { x = pos 3; y = pos 2 }) true)
    ∷ Call 3 (Moves 0) ∷ Call 4 (Dirty 15) ∷ Call 5 (Shape 524288) ∷ [])
unfolding script_on_literals
steps_of_each_kind = refl

-- an unknown call, a call that is no text, a timeout, a present beside a client, a further key
no_steps : are_refused step_of
    (codes "{\"client\":1,\"call\":\"hide\"}"
    ∷ codes "{\"client\":1,\"call\":0}"
    ∷ codes "{\"client\":1,\"call\":\"acquire\",\"timeout\":0}"
    ∷ codes "{\"client\":1,\"present\":[]}"
    ∷ codes "{\"present\":[],\"at\":0}"
    -- an index past the greatest, below 0 and that is no number, a desktop that is no truth value
    ∷ codes "{\"mode\":4294967296}"
    ∷ codes "{\"mode\":-1}"
    ∷ codes "{\"mode\":[4,3,1]}"
    ∷ codes "{\"switch\":1}"
    -- a session that isn't disconnected or connected again, two drawings in one, a word that names none
    ∷ codes "{\"disconnect\":false}"
    ∷ codes "{\"reconnect\":false}"
    ∷ codes "{\"reconnect\":1}"
    ∷ codes "{\"disconnect\":true,\"reconnect\":true}"
    ∷ codes "{\"mode\":0,\"switch\":true}"
    ∷ codes "{\"end\":true}"
    -- a pointer of three numbers, one that isn't told to be visible or not, one that is told so by a number, further keys
    ∷ codes "{\"pointer\":[0,0,0],\"visible\":true}"
    ∷ codes "{\"pointer\":[0,0]}"
    ∷ codes "{\"pointer\":[0,0],\"visible\":1}"
    ∷ codes "{\"pointer\":[0,0],\"visible\":true,\"shape\":1}"
    ∷ codes "{\"pointer\":[0,0],\"present\":[]}"
    -- a buffer past the greatest, below 0, that is missing, of a call that is given none, and a further key
    ∷ codes "{\"client\":1,\"call\":\"shape\",\"buffer\":524289}"
    ∷ codes "{\"client\":1,\"call\":\"dirty\",\"buffer\":-1}"
    ∷ codes "{\"client\":1,\"call\":\"moves\"}"
    ∷ codes "{\"client\":1,\"call\":\"desc\",\"buffer\":0}"
    ∷ codes "{\"client\":1,\"call\":\"hide\",\"buffer\":0}"
    ∷ codes "{\"client\":1,\"call\":\"moves\",\"buffer\":0,\"timeout\":0}"
    ∷ []) ≡ true
unfolding script_on_literals
no_steps = refl
