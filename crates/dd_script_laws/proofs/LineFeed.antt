-- What stands behind the text of a tree is lexed as it is alone: a line feed there changes nothing.
use Rattle.std.proofs.Common.{◌≡◌, Bool, true, false, cond, List, [], ◌∷◌, ◌++◌, refl, sym, ap, ap₂, ◌∙◌, append_assoc, append-nil, ℕ}
use Rattle.json.specs.Token as token
use Rattle.json.specs.Word.{ends_word, word}
use Rattle.json.specs.Lex.{string_token, lex, between, fresh, punctuate, tokens}
use Rattle.json.specs.Lex as lexemes
use Rattle.json.specs.Print.{escape, quoted, token_text}
use Rattle.json.specs.Tree.{HasNumbers, ItemsHaveNumbers, MembersHaveNumbers}
use Rattle.json.proofs.Printed.Strings.{content-escape, lex-escape}
use Rattle.json.proofs.Printed.Numbers.{lex-number, in_word-ended}
use Rattle.serde_json.specs.Data.{Data, null, boolean, number, string, array, object, Items, no_items, item, Members, no_members, member}
use Rattle.serde_json.specs.Written.{number_text, outline, items_outline, members_outline, comma_if, compact_text, items_text, members_text}

-- two texts that end a word, and are lexed as the same
pub record AreAlike (r s : List ℕ) : Type 0 where
  pub left : ends_word r ≡ true
  pub right : ends_word s ≡ true
  pub lexed : lex between r ≡ lex between s

-- what the texts are lexed as behind a text
abbrev SameBehind : List ℕ → List ℕ → List ℕ → Type 0
SameBehind text r s = lex between (text ++ r) ≡ lex between (text ++ s)

-- a text of two parts
behind_both : (a b r s : List ℕ) → SameBehind a (b ++ r) (b ++ s) → SameBehind (a ++ b) r s
behind_both a b r s e =
    ap (lex between) (append_assoc a b r) ∙ e ∙ sym (ap (lex between) (append_assoc a b s))

quoted_lexed : (q r : List ℕ) → lex between (quoted q ++ r) ≡ lexemes.token (token.string q) ∷ lex between r
unfolding lex
quoted_lexed q r =
    ap (λ l. lex between (34 ∷ l)) (append_assoc (escape q) (34 ∷ []) r)
    ∙ ap₂ (λ o l. lexemes.token (string_token o) ∷ l) (content-escape q r) (lex-escape q r)

behind_quoted : (q r s : List ℕ) → lex between r ≡ lex between s → SameBehind (quoted q) r s
behind_quoted q r s e =
    quoted_lexed q r ∙ ap (λ l. lexemes.token (token.string q) ∷ l) e ∙ sym (quoted_lexed q s)

-- the literals
null_lexed : (r : List ℕ) → ends_word r ≡ true
    → lex between (token_text token.null ++ r) ≡ lexemes.token token.null ∷ lex between r
unfolding lex word
null_lexed r e = ap₂ (λ b l. lexemes.token (cond b token.null token.bad) ∷ l) e (in_word-ended r e)

boolean_lexed : (b : Bool) (r : List ℕ) → ends_word r ≡ true
    → lex between (token_text (token.boolean b) ++ r) ≡ lexemes.token (token.boolean b) ∷ lex between r
unfolding lex word
boolean_lexed true r e = ap₂ (λ b l. lexemes.token (cond b (token.boolean true) token.bad) ∷ l) e (in_word-ended r e)
boolean_lexed false r e = ap₂ (λ b l. lexemes.token (cond b (token.boolean false) token.bad) ∷ l) e (in_word-ended r e)

-- a value inside a list or an object ends where a comma or a bracket stands
items_end : (ds : Items) (r : List ℕ) → ends_word (items_text true ds ++ r) ≡ true
items_end no_items r = refl
items_end (item d ds) r = refl

members_end : (ms : Members) (r : List ℕ) → ends_word (members_text true ms ++ r) ≡ true
members_end no_members r = refl
members_end (member k d ms) r = refl

behind_comma : (later : Bool) (text r s : List ℕ) → SameBehind text r s → SameBehind (comma_if later ++ text) r s
unfolding lex
behind_comma true text r s e = ap (λ l. lexemes.comma ∷ l) e
behind_comma false text r s e = e

mutual
  unfolding lex

  behind : (d : Data) → HasNumbers (outline d) → (r s : List ℕ) → AreAlike r s → SameBehind (compact_text d) r s
  behind null h r s a =
      null_lexed r a.left ∙ ap (λ l. lexemes.token token.null ∷ l) a.lexed ∙ sym (null_lexed s a.right)
  behind (boolean b) h r s a =
      boolean_lexed b r a.left ∙ ap (λ l. lexemes.token (token.boolean b) ∷ l) a.lexed
      ∙ sym (boolean_lexed b s a.right)
  behind (number n) h r s a =
      lex-number (number_text n) r h a.left ∙ ap (λ l. lexemes.token (token.number (number_text n)) ∷ l) a.lexed
      ∙ sym (lex-number (number_text n) s h a.right)
  behind (string q) h r s a = behind_quoted q r s a.lexed
  behind (array ds) h r s a = ap (λ l. lexemes.token token.begin_array ∷ l) (behind_items false ds h r s a)
  behind (object ms) h r s a = ap (λ l. lexemes.token token.begin_object ∷ l) (behind_members false ms h r s a)

  behind_items : (later : Bool) (ds : Items) → ItemsHaveNumbers (items_outline ds) → (r s : List ℕ) → AreAlike r s
      → SameBehind (items_text later ds) r s
  behind_items later no_items h r s a = ap (λ l. lexemes.token token.end_array ∷ l) a.lexed
  behind_items later (item d ds) h r s a =
      let more = items_text true ds in
      let rest : AreAlike (more ++ r) (more ++ s) =
      record { left = items_end ds r; right = items_end ds s; lexed = behind_items true ds h.1 r s a } in
      let value = behind d h.0 (more ++ r) (more ++ s) rest in
      behind_comma later (compact_text d ++ more) r s (behind_both (compact_text d) more r s value)

  behind_members : (later : Bool) (ms : Members) → MembersHaveNumbers (members_outline ms) → (r s : List ℕ)
      → AreAlike r s → SameBehind (members_text later ms) r s
  behind_members later no_members h r s a = ap (λ l. lexemes.token token.end_object ∷ l) a.lexed
  behind_members later (member k d ms) h r s a =
      let more = members_text true ms in
      let rest : AreAlike (more ++ r) (more ++ s) =
      record { left = members_end ms r; right = members_end ms s; lexed = behind_members true ms h.1 r s a } in
      let value = behind_both (compact_text d) more r s (behind d h.0 (more ++ r) (more ++ s) rest) in
      let colon = ap (λ l. lexemes.colon ∷ l) value in
      let key = behind_quoted k (58 ∷ ((compact_text d ++ more) ++ r)) (58 ∷ ((compact_text d ++ more) ++ s)) colon in
      behind_comma later (quoted k ++ 58 ∷ (compact_text d ++ more)) r s
      (behind_both (quoted k) (58 ∷ (compact_text d ++ more)) r s key)

-- a line feed is lexed as nothing
line_feed_alone : AreAlike (10 ∷ []) []
unfolding lex
line_feed_alone = record { left = refl; right = refl; lexed = refl }

pub tokens_of_line : (d : Data) → HasNumbers (outline d)
    → tokens (compact_text d ++ 10 ∷ []) ≡ tokens (compact_text d)
tokens_of_line d h =
    ap (punctuate fresh)
    (behind d h (10 ∷ []) [] line_feed_alone ∙ ap (lex between) (append-nil (compact_text d)))
