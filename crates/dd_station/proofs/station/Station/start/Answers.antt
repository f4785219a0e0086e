use Rattle.std.proofs.Common.{◌≡◌, ℕ, ◌∙◌, List, Option, None, length, replicate, ap}
use lib.LanesLaws.{map-replicate}
use Rattle.dd_log.specs.History.{History, begun}
use Rattle.dd_dup.specs.Reply.{Memory}
use Rattle.dd_dup.specs.Duplicator.{Duplicator}
use Rattle.dd_station.specs.Run.{State}
use Rattle.dd_dup.specs.Stands.{memory}
use Rattle.dd_station.specs.Station.{memories, state}
use Rattle.dd_station.proofs.station.Station.start.Goals as goal

abbrev with_memories : History → List ℕ → List (Option Memory) → State
with_memories h clients ms = record { history = h; clients = clients; memories = ms; steps = 0 }

none-memories : (n : ℕ) → memories (replicate n None) ≡ replicate n None
none-memories n = map-replicate memory n None

pub returns : goal.returns
returns c =
    ap (λ (h : History). state h c.in_ok-clients.clients.items c.in_ok-dups.dups.items 0) c.in_ok-log.ensures
    ∙ ap (λ (xs : List ℕ). state (begun c.args.spec) xs c.in_ok-dups.dups.items 0) c.in_ok-clients.ensures.items
    ∙ ap (λ (ds : List (Option Duplicator)). state (begun c.args.spec) c.args.clients.now ds 0) c.in_ok-dups.ensures
    ∙ ap (λ (ms : List (Option Memory)). with_memories (begun c.args.spec) c.args.clients.now ms)
    (none-memories (length c.args.clients.now))
