use Rattle.ion_symtab.proofs.Systems.{resolve_indexed}
use Rattle.ion_symtab.proofs.segments.Segments.local_symbol.Goals as goal

pub returns : goal.returns
returns c =
    rw (← c.self.view_is)
    (resolve_indexed _ _ c.args.id _ c.get.result c.self.invariant.1 c.if-id-from.false (rw c.deref.ensures.value at c.get.ensures.lookup.3))
