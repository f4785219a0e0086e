-- The limits of the outside.
use Rattle.std.proofs.Common.{◌≡◌, refl}
use Rattle.dd_io.specs.declared.counted.TheConstants.{MAX_TRIES}
use Rattle.dd_io.specs.declared.transfer.TheConstants.{CHUNK}

max_tries : MAX_TRIES ≡ 64
max_tries = refl

chunk : CHUNK ≡ 4096
chunk = refl
