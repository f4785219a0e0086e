use Rattle.std.proofs.Common.{◌≡◌, ◌≤◌, ◌+◌, ◌-◌, ◌++◌, length, map, take}
use Rattle.std.specs.Prelude.{vec_len, vec_capacity}
use Rattle.dd_region.specs.Carry.{moved_band}
use Rattle.dd_region.proofs.carry.push_bands.Given as goal

abbrev pub invariant-loop-band : goal.invariant-loop-band
invariant-loop-band l =
    record {
      items : l.new.items ≡ l.initial.new.items ++ map (moved_band l.from l.to) (take l.band-index l.bands);
      room : vec_len l.new + (length l.bands - l.band-index) ≤ vec_capacity l.new;
    }
