use Rattle.std.proofs.Common.{◌≡◌, ◌++◌, map}
use Rattle.ris_txn.specs.Listing.{net_triple}
use Rattle.ris_txn.proofs.overlays.Overlay.listed.Given as goal

abbrev pub invariant-loop-key : goal.invariant-loop-key
invariant-loop-key g l = l.triples ++ map (net_triple l.graph l.self) l.key-iterator ≡ map (net_triple l.graph l.self) l.self.triples.entries
