-- Two lists of bytes compared one after another.
use Rattle.std.proofs.Common.{◌≡◌, ℕ, suc, ◌+◌, ◌<◌, ◌≤◌, ◌==◌, ◌&&◌, Bool, true, false, List, [], ◌∷◌, length, drop, get_or, ◌⊎◌, inl, inr, refl, ap, ◌∙◌, arith}
use Rattle.std.proofs.Math.Seq.{drop-cons}
use Rattle.std.proofs.lemmas.Bool.{and_left}
use Rattle.std.proofs.lemmas.List.{drop_all}
use Rattle.dd_view.specs.Player.{agree}

module _ (bytes others : List ℕ) (i : ℕ) where
  abbrev left : ℕ → Bool
  left k = agree (drop k bytes) (drop k others)

  next : i < length bytes → i < length others → left i ≡ (get_or bytes i 0 == get_or others i 0 && left (i + 1))
  next one two =
      let place : suc i ≡ i + 1 = omega arith in
      ap (λ (b : List ℕ). agree b (drop i others)) (drop-cons bytes i 0 one)
      ∙ ap (agree (get_or bytes i 0 ∷ drop (suc i) bytes)) (drop-cons others i 0 two)
      ∙ ap (λ (k : ℕ). get_or bytes i 0 == get_or others i 0 && left k) place

  pub differ : i < length bytes → i < length others → (get_or bytes i 0 == get_or others i 0) ≡ false → left i ≡ false
  differ one two e = next one two ∙ and_left _ _ e

  pub goes_on : i < length bytes → i < length others → (get_or bytes i 0 == get_or others i 0) ≡ true
      → left i ≡ left (i + 1)
  goes_on one two e = next one two ∙ ap (λ b. b && left (i + 1)) e

  nothing_agrees : (b : List ℕ) → agree b [] ≡ true
  nothing_agrees [] = refl
  nothing_agrees (x ∷ b) = refl

  pub ends : (length bytes ≤ i) ⊎ (length others ≤ i) → left i ≡ true
  ends (inl e) = ap (λ (b : List ℕ). agree b (drop i others)) (drop_all i bytes e)
  ends (inr e) = ap (agree (drop i bytes)) (drop_all i others e) ∙ nothing_agrees (drop i bytes)
