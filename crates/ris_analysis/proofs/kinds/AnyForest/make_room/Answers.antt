use Rattle.std.proofs.Common.{refl}
use Rattle.ris_analysis.specs.declared.kinds.AnyForest.TheVariants as any
use Rattle.ris_analysis.proofs.KindLemmas.{grown_of}
use Rattle.ris_analysis.proofs.kinds.AnyForest.make_room.Goals as goal

pub returns-in-Bfs-clause-grown : goal.returns-in-Bfs-clause-grown
returns-in-Bfs-clause-grown c =
    grown_of any.Bfs (λ f. refl) (λ f cells. refl) c.args.self.now c.in-Bfs.forest c.make_room.new.self _ c.in-Bfs.is c.make_room.ensures.algo c.make_room.ensures.cells

pub returns-in-Sssp-clause-grown : goal.returns-in-Sssp-clause-grown
returns-in-Sssp-clause-grown c =
    grown_of any.Sssp (λ f. refl) (λ f cells. refl) c.args.self.now c.in-Sssp.forest c.make_room-in-Sssp.new.self _ c.in-Sssp.is c.make_room-in-Sssp.ensures.algo c.make_room-in-Sssp.ensures.cells

pub returns-in-Sswp-clause-grown : goal.returns-in-Sswp-clause-grown
returns-in-Sswp-clause-grown c =
    grown_of any.Sswp (λ f. refl) (λ f cells. refl) c.args.self.now c.in-Sswp.forest c.make_room-in-Sswp.new.self _ c.in-Sswp.is c.make_room-in-Sswp.ensures.algo c.make_room-in-Sswp.ensures.cells

pub returns-in-Wcc-clause-grown : goal.returns-in-Wcc-clause-grown
returns-in-Wcc-clause-grown c =
    grown_of any.Wcc (λ f. refl) (λ f cells. refl) c.args.self.now c.in-Wcc.forest c.make_room-in-Wcc.new.self _ c.in-Wcc.is c.make_room-in-Wcc.ensures.algo c.make_room-in-Wcc.ensures.cells
