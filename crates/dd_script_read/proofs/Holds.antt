-- Reading in steps, each of which may give nothing: what holds of what is read.
use Rattle.std.proofs.Common.{◌≡◌, ℕ, true, false, Bool, List, Some, None, Option, cond, refl, IfSome, option_and_then, option_map}
use Rattle.serde_json.specs.Data.{Data}
use Rattle.serde_json.specs.Find.{get, at}

-- what holds after the second step, from what holds after the first
pub then_holds : {A B : Type 0} (P : A → Type 0) (Q : B → Type 0) (o : Option A) (f : A → Option B)
    → IfSome o P → ((x : A) → P x → IfSome (f x) Q) → IfSome (option_and_then f o) Q
then_holds P Q None f h k = tt
then_holds P Q (Some x) f h k = k x h

-- what holds after the second step, whatever the first gave
pub always_holds : {A B : Type 0} (Q : B → Type 0) (o : Option A) (f : A → Option B)
    → ((x : A) → IfSome (f x) Q) → IfSome (option_and_then f o) Q
always_holds Q None f k = tt
always_holds Q (Some x) f k = k x

pub map_holds : {A B : Type 0} (P : A → Type 0) (Q : B → Type 0) (o : Option A) (f : A → B)
    → IfSome o P → ((x : A) → P x → Q (f x)) → IfSome (option_map f o) Q
map_holds P Q None f h k = tt
map_holds P Q (Some x) f h k = k x h

-- a value under a test
pub tested_holds : {A : Type 0} (Q : A → Type 0) (b : Bool) (o : Option A)
    → (b ≡ true → IfSome o Q) → IfSome (cond b o None) Q
tested_holds Q true o h = h refl
tested_holds Q false o h = tt

pub either_holds : {A : Type 0} (Q : A → Type 0) (b : Bool) (o r : Option A)
    → IfSome o Q → IfSome r Q → IfSome (cond b o r) Q
either_holds Q true o r h k = h
either_holds Q false o r h k = k

-- what is read at a key, and the step after it
pub key_holds : {A B : Type 0} (P : A → Type 0) (Q : B → Type 0) (key : List ℕ) (d : Data)
    (read : Data → Option A) (f : A → Option B) → ((e : Data) → IfSome (read e) P) → ((x : A) → P x → IfSome (f x) Q)
    → IfSome (option_and_then f (option_and_then read (get key d))) Q
key_holds P Q key d read f h k =
    then_holds P Q (option_and_then read (get key d)) f (always_holds P (get key d) read h) k

-- what is read at a place of a list, and the step after it
pub place_holds : {A B : Type 0} (P : A → Type 0) (Q : B → Type 0) (n : ℕ) (d : Data)
    (read : Data → Option A) (f : A → Option B) → ((e : Data) → IfSome (read e) P) → ((x : A) → P x → IfSome (f x) Q)
    → IfSome (option_and_then f (option_and_then read (at n d))) Q
place_holds P Q n d read f h k =
    then_holds P Q (option_and_then read (at n d)) f (always_holds P (at n d) read h) k
