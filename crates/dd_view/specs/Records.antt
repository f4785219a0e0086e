-- Whole records: reading the bytes of chunks that follow one another ends with the End chunk, and plays the chunks.
use Rattle.std.specs.Prelude.{◌≡◌, ℕ, List, [], ◌∷◌, length, Option, Some, None}
use Rattle.dd_geom.specs.Rect.{IsSize}
use Rattle.dd_modes.specs.declared.modes.Mode.{Mode}
use Rattle.dd_record.specs.declared.chunk.Chunk.{Chunk}
use Rattle.dd_record.specs.declared.chunk.Chunk.TheVariants.{Opening, Frame, End}
use Rattle.dd_record.specs.Writing.{record_bytes, KeepsRules}
use Rattle.dd_view.specs.declared.stage.Stage.TheVariants.{Ended}
use Rattle.dd_view.specs.Playing.{played}
use Rattle.dd_view.specs.Player.{Reader, reader_of}

-- Chunks follow one another behind the opening chunk of a mode, where there is one: an opening is of a size that
-- surfaces have, and a frame keeps the rules of the surface of the last opening. The end isn't among them.
abbrev pub Follow : Option Mode → List Chunk → Type 0
Follow last [] = Unit {0}
Follow last (Opening mode ∷ chunks) = IsSize mode.width mode.height × Follow (Some mode) chunks
Follow None (Frame f ∷ chunks) = ⊥
Follow (Some mode) (Frame f ∷ chunks) = KeepsRules mode f × Follow (Some mode) chunks
Follow last (End ∷ chunks) = ⊥

-- the reader of a whole record: it has ended, no byte is left, and the chunks were played
abbrev pub read_whole : ℕ → List Chunk → Reader
read_whole asked chunks = record {
  asked = asked;
  stage = Ended;
  at = length (record_bytes chunks);
  rest = [];
  played = played asked chunks;
}

-- the record of chunks that follow one another is read whole
abbrev pub ReadsRecords : Type 0
ReadsRecords =
    (asked : ℕ) (chunks : List Chunk) → Follow None chunks
    → reader_of asked (record_bytes chunks) ≡ read_whole asked chunks
