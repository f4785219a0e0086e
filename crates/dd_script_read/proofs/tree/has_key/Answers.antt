-- From the last member on, the call answers whether the key is among all.
use Rattle.std.proofs.Common.{◌∙◌, rules}
use Rattle.std.proofs.lemmas.Iterator.Adapters.{YieldsList-from_rev_slice}
use Rattle.std.proofs.lemmas.Iterator.Search.{any_from_yields_List}
use Rattle.dd_script_read.proofs.Keys.{has_name, named_from_last}
use Rattle.dd_script_read.proofs.tree.has_key.Goals as goal
use borrow.Author.Tests.{tests}

pub returns : goal.returns
returns c =
    any_from_yields_List (has_name c.args.key.now) _ _ _ c.any.ensures.ran
    (YieldsList-from_rev_slice c.args.members.now cc) (λ x b q k. search (rules, tests))
    ∙ named_from_last c.args.key.now c.args.members.now
