-- A text has hardly more tokens than bytes.
use Rattle.std.proofs.Common.{ℕ, suc, ◌≤◌, Bool, true, false, List, [], ◌∷◌, length, arith}
use Rattle.json.specs.Token as token
use Rattle.json.specs.Token.{Token}
use Rattle.json.specs.Lex.{Lexeme, comma, colon, Class, quote, backslash, operator, space, other, class, Mode, between, in_word, in_string, in_escape, lex_byte, lex, Place, fresh, after_value, after_comma, after_key, begins_colon, may_begin, may_close, if_allowed, place_token, punctuate, tokens}
use Rattle.json.specs.Lex as lexemes

-- each byte gives one lexeme at most
byte_gives_one : (m : Mode) (c : Class) (x : ℕ) (xs : List ℕ) (k : Mode → List Lexeme) (n : ℕ)
    → ((next : Mode) → length (k next) ≤ n) → length (lex_byte m c x xs k) ≤ suc n
byte_gives_one between quote x xs k n h = let rest = h in_string in omega arith
byte_gives_one between backslash x xs k n h = let rest = h in_word in omega arith
byte_gives_one between operator x xs k n h = let rest = h between in omega arith
byte_gives_one between space x xs k n h = let rest = h between in omega arith
byte_gives_one between other x xs k n h = let rest = h in_word in omega arith
byte_gives_one in_word quote x xs k n h = let rest = h in_word in omega arith
byte_gives_one in_word backslash x xs k n h = let rest = h in_word in omega arith
byte_gives_one in_word operator x xs k n h = let rest = h between in omega arith
byte_gives_one in_word space x xs k n h = let rest = h between in omega arith
byte_gives_one in_word other x xs k n h = let rest = h in_word in omega arith
byte_gives_one in_string quote x xs k n h = let rest = h between in omega arith
byte_gives_one in_string backslash x xs k n h = let rest = h in_escape in omega arith
byte_gives_one in_string operator x xs k n h = let rest = h in_string in omega arith
byte_gives_one in_string space x xs k n h = let rest = h in_string in omega arith
byte_gives_one in_string other x xs k n h = let rest = h in_string in omega arith
byte_gives_one in_escape c x xs k n h = let rest = h in_string in omega arith

few_lexemes : (m : Mode) (xs : List ℕ) → length (lex m xs) ≤ length xs
unfolding lex
few_lexemes m [] = omega arith
few_lexemes m (x ∷ xs) =
    byte_gives_one m (class x) x xs (λ next. lex next xs) (length xs) (λ next. few_lexemes next xs)

-- each lexeme gives one token at most, and a fault at the end one more
allowed_gives_one : (b : Bool) (t : Token) (k : Place → List Token) (next : Place) (n : ℕ)
    → length (k next) ≤ suc n → length (if_allowed b t k next) ≤ suc (suc n)
allowed_gives_one true t k next n h = omega arith
allowed_gives_one false t k next n h = omega arith

token_gives_one : (p : Place) (t : Token) (b : Bool) (k : Place → List Token) (n : ℕ)
    → ((next : Place) → length (k next) ≤ suc n) → length (place_token p t b k) ≤ suc (suc n)
token_gives_one p token.begin_object b k n h = allowed_gives_one (may_begin p) token.begin_object k fresh n (h fresh)
token_gives_one p token.end_object b k n h =
    allowed_gives_one (may_close p) token.end_object k after_value n (h after_value)
token_gives_one p token.begin_array b k n h = allowed_gives_one (may_begin p) token.begin_array k fresh n (h fresh)
token_gives_one p token.end_array b k n h =
    allowed_gives_one (may_close p) token.end_array k after_value n (h after_value)
token_gives_one p (token.key s) b k n h = omega arith
token_gives_one p (token.string s) true k n h =
    allowed_gives_one (may_begin p) (token.key s) k after_key n (h after_key)
token_gives_one p (token.string s) false k n h =
    allowed_gives_one (may_begin p) (token.string s) k after_value n (h after_value)
token_gives_one p (token.number s) b k n h =
    allowed_gives_one (may_begin p) (token.number s) k after_value n (h after_value)
token_gives_one p (token.boolean v) b k n h =
    allowed_gives_one (may_begin p) (token.boolean v) k after_value n (h after_value)
token_gives_one p token.null b k n h = allowed_gives_one (may_begin p) token.null k after_value n (h after_value)
token_gives_one p token.bad b k n h = omega arith

few_tokens : (p : Place) (ls : List Lexeme) → length (punctuate p ls) ≤ suc (length ls)
unfolding punctuate
few_tokens fresh [] = omega arith
few_tokens after_value [] = omega arith
few_tokens after_comma [] = omega arith
few_tokens after_key [] = omega arith
few_tokens fresh (lexemes.token t ∷ ls) =
    token_gives_one fresh t (begins_colon ls) (λ next. punctuate next ls) (length ls) (λ next. few_tokens next ls)
few_tokens after_value (lexemes.token t ∷ ls) =
    token_gives_one after_value t (begins_colon ls) (λ next. punctuate next ls) (length ls) (λ next. few_tokens next ls)
few_tokens after_comma (lexemes.token t ∷ ls) =
    token_gives_one after_comma t (begins_colon ls) (λ next. punctuate next ls) (length ls) (λ next. few_tokens next ls)
few_tokens after_key (lexemes.token t ∷ ls) =
    token_gives_one after_key t (begins_colon ls) (λ next. punctuate next ls) (length ls) (λ next. few_tokens next ls)
few_tokens fresh (comma ∷ ls) = omega arith
few_tokens after_value (comma ∷ ls) = let rest = few_tokens after_comma ls in omega arith
few_tokens after_comma (comma ∷ ls) = omega arith
few_tokens after_key (comma ∷ ls) = omega arith
few_tokens fresh (colon ∷ ls) = omega arith
few_tokens after_value (colon ∷ ls) = omega arith
few_tokens after_comma (colon ∷ ls) = omega arith
few_tokens after_key (colon ∷ ls) = let rest = few_tokens fresh ls in omega arith

pub tokens_of_text : (text : List ℕ) → length (tokens text) ≤ suc (length text)
tokens_of_text text =
    let lexed = few_lexemes between text in
    let placed = few_tokens fresh (lex between text) in
    omega arith
