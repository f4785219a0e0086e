-- One more piece of a transfer: what was given or appended before it, and then the piece.
use Rattle.std.proofs.Common.{◌≡◌, ℕ, ◌+◌, ◌-◌, ◌<◌, ◌≤◌, List, ◌++◌, Option, length, take, subst, sym, ap, ◌∙◌, arith, length-append}
use Rattle.std.proofs.KnownBytes.{Appends-kept, Appends-trans, Consumes-trans}
use Rattle.std.proofs.Math.Seq.{take-append_seam, take-append-add}
use Rattle.std.specs.Io.KnownBytes.{Appends, Consumes, Keeps}
use Rattle.dd_io.specs.Transfer.{AppendsPrefix, GivesAtMost, GivesMoreThan}

-- what was appended before a call that appended nothing is a prefix
pub AppendsPrefix-kept : (a b c : Option (List ℕ)) (whole done rest : List ℕ)
    → whole ≡ done ++ rest → Appends a b done → Keeps b c → AppendsPrefix a c whole
AppendsPrefix-kept a b c whole done rest e p q =
    let front : take (length done) whole ≡ done = ap (take (length done)) e ∙ take-append_seam done rest in (
      length done,
      omega (arith, ap length e, length-append done rest),
      subst (Appends a c) (sym front) (Appends-kept a b c done p q),
    )

-- a piece was appended, and then a prefix of the next one
pub AppendsPrefix-next : (a b c : Option (List ℕ)) (xs ys : List ℕ)
    → Appends a b xs → AppendsPrefix b c ys → AppendsPrefix a c (xs ++ ys)
AppendsPrefix-next a b c xs ys p q = (
  length xs + q.0,
  omega (arith, q.1, length-append xs ys),
  subst (Appends a c) (sym (take-append-add xs ys q.0)) (Appends-trans a b c xs (take q.0 ys) p q.2),
)

-- the piece fits
pub GivesAtMost-piece : (a b c : Option (List ℕ)) (bs piece : List ℕ) (len limit : ℕ)
    → Consumes a b bs → Consumes b c piece
    → length bs ≡ len → len ≤ limit → length piece ≤ limit - len → GivesAtMost limit a c
GivesAtMost-piece a b c bs piece len limit p q e within fits =
    (bs ++ piece, omega (arith, length-append bs piece), Consumes-trans a b c bs piece p q)

-- the piece goes past the limit
pub GivesMoreThan-piece : (a b c : Option (List ℕ)) (bs piece : List ℕ) (len limit chunk : ℕ)
    → Consumes a b bs → Consumes b c piece
    → length bs ≡ len → len ≤ limit → length piece ≤ chunk → limit - len < length piece
    → GivesMoreThan limit (limit + chunk) a c
GivesMoreThan-piece a b c bs piece len limit chunk p q e within size past = (
  bs ++ piece,
  omega (arith, length-append bs piece),
  omega (arith, length-append bs piece),
  Consumes-trans a b c bs piece p q,
)
