-- Whole runs, computed from the bytes of a script to the bytes of its answers.
use Rattle.std.proofs.Common.{◌≡◌, ℕ, List, ◌++◌, ◌∷◌, [], codes, map, replicate, Some, refl}
use Rattle.std.specs.Prelude.{option_map, option_and_then}
use Rattle.std.specs.List.{flat_map}
use Rattle.serde_json.specs.Read.{read}
use Rattle.dd_bits.specs.CanonicalList.{run_end, same_rows, canonical_list}
use Rattle.dd_bits.specs.Tiles.{tiles}
use Rattle.dd_coal.specs.Power.{least_power_from, power}
use Rattle.dd_acc.specs.Effects.{dirtied, dirt, is_coalesced, moves}
use Rattle.dd_log.specs.Desk.{desk_of, desk_after, first_desk}
use Rattle.dd_log.specs.Picture.{state_of, picture, presents}
use Rattle.dd_dup.specs.News.{dirt_of, picture_news}
use Rattle.dd_station.specs.Run.{next, run}
use Rattle.dd_script_read.specs.Script.{script_of}
use Rattle.dd_script_write.specs.Texts.{text}
use Rattle.dd_script_read.proofs.OnLiterals.{script_on_literals}
use Rattle.dd_script_write.proofs.OnLiterals.{answers_on_literals}

-- the texts with commas between them
abbrev separated : List (List ℕ) → List ℕ
separated [] = []
separated (x ∷ []) = x
separated (x ∷ y ∷ xs) = x ++ codes "," ++ separated (y ∷ xs)

-- the text of a script of a screen of 4 by 3 points and one client
abbrev script_with : List (List ℕ) → List ℕ
script_with steps =
    codes "{\"modes\":[[4,3,1]],\"capacity\":100,\"privileged\":[],\"clients\":[1],\"steps\":["
    ++ separated steps
    ++ codes "]}"

-- the script of these steps has a run that gives these answers
abbrev Gives : List (List ℕ) → List (List ℕ) → Type 0
Gives steps answers =
    option_map (λ s. text (run s)) (option_and_then script_of (read (script_with steps)))
    ≡ Some (flat_map (λ a. a ++ 10 ∷ []) answers)

-- steps
abbrev duplicate : List ℕ
duplicate = codes "{\"client\":1,\"call\":\"duplicate\"}"

abbrev acquire : List ℕ
acquire = codes "{\"client\":1,\"call\":\"acquire\"}"

abbrev release : List ℕ
release = codes "{\"client\":1,\"call\":\"release\"}"

abbrev surface : List ℕ
surface = codes "{\"client\":1,\"call\":\"surface\"}"

abbrev present : List (List ℕ) → List ℕ
present ops = codes "{\"present\":[" ++ separated ops ++ codes "]}"

abbrev fill : List ℕ → List ℕ → List ℕ
fill rect colour = codes "{\"fill\":[" ++ rect ++ codes "],\"colour\":\"" ++ colour ++ codes "\"}"

abbrev scroll : List ℕ → List ℕ → List ℕ
scroll rect from = codes "{\"scroll\":[" ++ rect ++ codes "],\"from\":[" ++ from ++ codes "]}"

abbrev blit : List ℕ → List ℕ → List ℕ
blit rect colours = codes "{\"blit\":[" ++ rect ++ codes "],\"colours\":\"" ++ colours ++ codes "\"}"

-- answers
abbrev opened : List ℕ
opened = codes "{\"entry\":1,\"slot\":0}"

abbrev entered : List ℕ → List ℕ
entered n = codes "{\"entry\":" ++ n ++ codes "}"

abbrev released : List ℕ
released = codes "{\"released\":true}"

abbrev bad_rect : List ℕ → List ℕ
bad_rect op = codes "{\"code\":\"80070057\",\"op\":" ++ op ++ codes ",\"refused\":\"BadRect\"}"

abbrev frame : List ℕ → List ℕ → List ℕ → List ℕ → List ℕ → List ℕ
frame rects accumulated meta last told_moves =
    codes "{\"dirty\":[" ++ rects ++ codes "],\"frame\":{\"accumulated\":" ++ accumulated
    ++ codes ",\"coalesced\":false,\"meta\":" ++ meta
    ++ codes ",\"mouse\":0,\"pointer\":[0,0],\"present\":" ++ last
    ++ codes ",\"protected\":false,\"shape\":0,\"visible\":false},\"moves\":[" ++ told_moves ++ codes "]}"

abbrev shown : List ℕ → List ℕ → List ℕ → List ℕ
shown a b c = codes "{\"surface\":[\"" ++ a ++ codes "\",\"" ++ b ++ codes "\",\"" ++ c ++ codes "\"]}"

-- one row of the screen, where nothing was drawn
abbrev black : List ℕ
black = codes "000000000000000000000000"

-- one fill, acquired and shown
abbrev OneFill : Type 0
OneFill = Gives
    (duplicate ∷ present (fill (codes "1,1,3,2") (codes "ff0000") ∷ []) ∷ acquire ∷ surface ∷ [])
    (opened ∷ entered (codes "2") ∷ frame (codes "[1,1,3,2]") (codes "1") (codes "16") (codes "2") []
    ∷ shown black (codes "000000ff0000ff0000000000") black ∷ [])

-- two fills that overlap are cut into bands of equal rows
abbrev InBands : Type 0
InBands = Gives
    (duplicate ∷ present (fill (codes "0,0,1,2") (codes "ff0000") ∷ fill (codes "0,0,3,1") (codes "00ff00") ∷ [])
    ∷ acquire ∷ [])
    (opened ∷ entered (codes "2") ∷ frame (codes "[0,0,3,1],[0,1,1,2]") (codes "1") (codes "32") (codes "2") [] ∷ [])

-- a scroll over itself carries the dirt of its source along
abbrev DirtIsCarried : Type 0
DirtIsCarried = Gives
    (duplicate ∷ present (fill (codes "0,0,2,1") (codes "ff0000") ∷ [])
    ∷ present (scroll (codes "1,0,3,1") (codes "0,0") ∷ [])
    ∷ acquire ∷ surface ∷ [])
    (opened ∷ entered (codes "2") ∷ entered (codes "3")
    ∷ frame (codes "[0,0,3,1]") (codes "2") (codes "40") (codes "3") (codes "[0,0,1,0,3,1]")
    ∷ shown (codes "ff0000ff0000ff0000000000") black black ∷ [])

-- sixteen scrolls are moves, and the seventeenth is a draw of its destination
abbrev SeventeenScrolls : Type 0
SeventeenScrolls = Gives
    (duplicate ∷ replicate 17 (present (scroll (codes "0,1,4,2") (codes "0,0") ∷ [])) ++ acquire ∷ [])
    (opened ∷ map entered
    (codes "2" ∷ codes "3" ∷ codes "4" ∷ codes "5" ∷ codes "6" ∷ codes "7" ∷ codes "8" ∷ codes "9" ∷ codes "10"
    ∷ codes "11" ∷ codes "12" ∷ codes "13" ∷ codes "14" ∷ codes "15" ∷ codes "16" ∷ codes "17" ∷ codes "18" ∷ [])
    ++ frame (codes "[0,1,4,2]") (codes "17") (codes "400") (codes "18") (separated (replicate 16 (codes "[0,0,0,1,4,2]"))) ∷ [])

-- an image stands upright at its place; one of too few colours is refused, by its place in the present
abbrev AnImage : Type 0
AnImage = Gives
    (duplicate ∷ present (blit (codes "1,0,3,2") (codes "000001000002000003000004") ∷ [])
    ∷ present (fill (codes "0,0,1,1") (codes "ff0000") ∷ blit (codes "0,0,2,1") (codes "000001") ∷ []) ∷ acquire
    ∷ surface ∷ [])
    (opened ∷ entered (codes "2") ∷ bad_rect (codes "1")
    ∷ frame (codes "[1,0,3,2]") (codes "1") (codes "16") (codes "2") []
    ∷ shown (codes "000000000001000002000000") (codes "000000000003000004000000") black ∷ [])

-- two moves of one frame, the second of what the first brought
abbrev MovesInOrder : Type 0
MovesInOrder = Gives
    (duplicate ∷ present (fill (codes "0,0,1,1") (codes "ff0000") ∷ []) ∷ acquire ∷ release
    ∷ present (scroll (codes "1,0,2,1") (codes "0,0") ∷ []) ∷ present (scroll (codes "3,2,4,3") (codes "1,0")
    ∷ []) ∷ acquire ∷ surface ∷ [])
    (opened ∷ entered (codes "2") ∷ frame (codes "[0,0,1,1]") (codes "1") (codes "16") (codes "2") [] ∷ released
    ∷ entered (codes "3") ∷ entered (codes "4")
    ∷ frame [] (codes "2") (codes "48") (codes "4") (codes "[0,0,1,0,2,1],[1,0,3,2,4,3]")
    ∷ shown (codes "ff0000ff0000000000000000") black (codes "000000000000000000ff0000") ∷ [])

runs : OneFill × InBands × DirtIsCarried × SeventeenScrolls × AnImage × MovesInOrder
unfolding script_on_literals next run picture state_of desk_of desk_after first_desk presents dirtied dirt is_coalesced moves
    canonical_list same_rows run_end tiles power least_power_from dirt_of picture_news answers_on_literals
runs = (refl, refl, refl, refl, refl, refl)
