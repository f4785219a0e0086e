-- The parts of a refusal, put from the last to the first, stand in the order of their keys.
use Rattle.std.proofs.Common.{◌≡◌, codes, Option, Some, None, refl}
use Rattle.serde_json.specs.Data.{Data, Members, member, no_members, put}
use Rattle.dd_script_write.specs.Answers.{part, put_part}

in_order : (buffer code op required : Option Data) (name : Data)
    → put_part (codes "buffer") buffer (put_part (codes "code") code
    (put_part (codes "op") op (put (codes "refused") name (put_part (codes "required") required no_members))))
    ≡ part (codes "buffer") buffer (part (codes "code") code
    (part (codes "op") op (member (codes "refused") name (part (codes "required") required no_members))))
in_order None None None None name = refl
in_order None None None (Some required) name = refl
in_order None None (Some op) None name = refl
in_order None None (Some op) (Some required) name = refl
in_order None (Some code) None None name = refl
in_order None (Some code) None (Some required) name = refl
in_order None (Some code) (Some op) None name = refl
in_order None (Some code) (Some op) (Some required) name = refl
in_order (Some buffer) None None None name = refl
in_order (Some buffer) None None (Some required) name = refl
in_order (Some buffer) None (Some op) None name = refl
in_order (Some buffer) None (Some op) (Some required) name = refl
in_order (Some buffer) (Some code) None None name = refl
in_order (Some buffer) (Some code) None (Some required) name = refl
in_order (Some buffer) (Some code) (Some op) None name = refl
in_order (Some buffer) (Some code) (Some op) (Some required) name = refl

pub put_in_turn : (buffer code op required : Option Data) (name : Data)
    (none with_required named with_op with_code all : Members)
    → none ≡ no_members
    → with_required ≡ put_part (codes "required") required none
    → named ≡ put (codes "refused") name with_required
    → with_op ≡ put_part (codes "op") op named
    → with_code ≡ put_part (codes "code") code with_op
    → all ≡ put_part (codes "buffer") buffer with_code
    → all ≡ part (codes "buffer") buffer (part (codes "code") code
    (part (codes "op") op (member (codes "refused") name (part (codes "required") required no_members))))
put_in_turn buffer code op required name none with_required named with_op with_code all e0 e1 e2 e3 e4 e5 =
    rw (e5, e4, e3, e2, e1, e0) (in_order buffer code op required name)
