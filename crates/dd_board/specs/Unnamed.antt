-- What contracts see of a board that has no name yet.
use Rattle.std.specs.Prelude.{◌≡◌, ◌≤◌, ℕ, List, [], length}
use Rattle.logbook.specs.Pages.{Book}
use Rattle.dd_log.specs.declared.events.TheConstants.{MAX_CAPACITY}
use Rattle.dd_log.specs.declared.events.Spec.{Spec}
use Rattle.dd_calls.specs.declared.answers.Role.{Role}
use Rattle.dd_log.specs.History.{begun}
use Rattle.dd_board.specs.Rules.{head_of}
use Rattle.dd_board.specs.declared.board.TheConstants.{MAX_SEATS}
use Rattle.dd_board.specs.declared.unnamed.Unnamed.TheInside.{Inside}

-- the book of its one list, its spec, the roles of its seats, its ledger and how many parts that has
pub record Plan : Type 0 where
  pub book : Book
  pub spec : Spec
  pub roles : List Role
  pub ledger : ℕ
  pub parts : ℕ

abbrev pub plan : Inside → Plan
plan u = record {
  book = u.seen.book;
  spec = u.first.spec;
  roles = u.roles.items;
  ledger = u.blank.name;
  parts = u.blank.parts;
}

-- both copies are empty, nothing was seen, and the ledger has a part for each seat
pub record IsBlank (u : Inside) : Type 0 where
  pub seen : u.seen.log ≡ []
  pub word : u.word ≡ head_of u.seen.book
  pub first : u.first ≡ begun u.first.spec
  pub second : u.second ≡ begun u.first.spec
  pub some : 1 ≤ u.first.spec.capacity
  pub few : u.first.spec.capacity ≤ MAX_CAPACITY
  pub parts : u.blank.parts ≡ length u.roles.items
  pub seats : length u.roles.items ≤ MAX_SEATS
  pub seat : 1 ≤ length u.roles.items
