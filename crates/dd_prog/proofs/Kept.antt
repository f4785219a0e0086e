-- Bytes written after others: what the sink took of both, and a front of both.
use Rattle.std.proofs.Common.{◌≡◌, ℕ, ◌≤◌, List, [], ◌++◌, Option, Result, Ok, Err, refl, sym, ap, ◌∙◌, subst, arith, append_assoc, append-nil, length-append}
use Rattle.std.specs.Io.KnownBytes.{Appends}
use Rattle.std.proofs.KnownBytes.{Appends-nil, Appends-trans}
use Rattle.std.proofs.lemmas.List.{take-append-le}
use Rattle.dd_io.specs.Causes.{Rose}
use Rattle.dd_io.specs.Transfer.{AppendsPrefix}
use Rattle.dd_io.proofs.Pieces.{AppendsPrefix-next}
use Rattle.dd_prog.specs.declared.fault.RunFault.{RunFault}
use Rattle.dd_prog.specs.declared.fault.RunFault.TheVariants as faults
use Rattle.dd_prog.specs.Exchange.{side, Took}
use Rattle.dd_prog.specs.Outcome.{WritesText}
use Rattle.dd_prog.specs.Keeping.{Adds}

-- a front of a text is a front of a longer one
longer : (a b : Option (List ℕ)) (xs ys : List ℕ) → AppendsPrefix a b xs → AppendsPrefix a b (xs ++ ys)
longer a b xs ys p = (
  p.0,
  omega (arith, p.1, length-append xs ys),
  subst (Appends a b) (sym (take-append-le p.0 xs ys p.1)) p.2,
)

-- bytes were written, and then a front of others: a front of all
front_of_all : (a b c : Option (List ℕ)) (wrote next rest all : List ℕ) → wrote ++ (next ++ rest) ≡ all
    → Appends a b wrote → AppendsPrefix b c next → AppendsPrefix a c all
front_of_all a b c wrote next rest all is took front =
    subst (AppendsPrefix a c) (append_assoc wrote next rest ∙ is)
    (longer a c (wrote ++ next) rest (AppendsPrefix-next a b c wrote next took front))

-- bytes were written, and then a run stopped in others: it stopped in all of them
pub stopped_in_all : (fault : RunFault) {K : Type 0} (held : K → Option (List ℕ)) (count : K → ℕ) (a b c : K)
    (wrote next rest all : List ℕ) → wrote ++ (next ++ rest) ≡ all → count a ≤ count b
    → Took (side held count a b) wrote → WritesText (side held count b c) next (Err fault)
    → WritesText (side held count a c) all (Err fault)
stopped_in_all faults.OutOfMemory held count a b c wrote next rest all is later took writes =
    front_of_all (held a) (held b) (held c) wrote next rest all is took writes
stopped_in_all faults.WriteFault held count a b c wrote next rest all is later took writes =
    (front_of_all (held a) (held b) (held c) wrote next rest all is took writes.0, rose_earlier later writes.1) where
      rose_earlier : {d e f : ℕ} → d ≤ e → Rose e f → Rose d f
      rose_earlier le rose = omega arith

-- what was kept was written, and then a line
pub then_line : (r : Result (Unit {0}) RunFault) {K : Type 0} (held : K → Option (List ℕ)) (count : K → ℕ) (a b c : K)
    (kept now line : List ℕ) → Took (side held count a b) kept → now ≡ [] → count a ≤ count b
    → WritesText (side held count b c) line r → Adds (side held count a c) kept now line r
then_line (Ok x) held count a b c kept now line took none later writes = (
  kept ++ line,
  Appends-trans (held a) (held b) (held c) kept line took writes,
  ap (λ xs. (kept ++ line) ++ xs) none ∙ append-nil (kept ++ line),
)
then_line (Err fault) held count a b c kept now line took none later writes =
    stopped_in_all fault held count a b c kept line [] (kept ++ line) (ap (λ xs. kept ++ xs) (append-nil line)) later
    took writes

-- a run stopped in the first bytes: it stopped in all of them
pub stopped_in_first : (fault : RunFault) {K : Type 0} (held : K → Option (List ℕ)) (count : K → ℕ) (a b : K)
    (xs ys : List ℕ) → WritesText (side held count a b) xs (Err fault) → WritesText (side held count a b) (xs ++ ys) (Err fault)
stopped_in_first fault held count a b xs ys writes =
    stopped_in_all fault held count a a b [] xs ys (xs ++ ys) refl (omega arith) (Appends-nil (held a)) writes

-- bytes were written, and then others
pub then_others : (r : Result (Unit {0}) RunFault) {K : Type 0} (held : K → Option (List ℕ)) (count : K → ℕ)
    (a b c : K) (xs ys : List ℕ) → Took (side held count a b) xs → count a ≤ count b
    → WritesText (side held count b c) ys r → WritesText (side held count a c) (xs ++ ys) r
then_others (Ok x) held count a b c xs ys took later writes = Appends-trans (held a) (held b) (held c) xs ys took writes
then_others (Err fault) held count a b c xs ys took later writes =
    stopped_in_all fault held count a b c xs ys [] (xs ++ ys) (ap (λ zs. xs ++ zs) (append-nil ys)) later took writes
