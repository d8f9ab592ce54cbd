use Rattle.std.proofs.Common.{◌+◌, ◌*◌, map}
use Rattle.ion_model.specs.Names.{depth, greatest}
use Rattle.ion_model.proofs.path.+part.Given as goal

abbrev pub decreases-part_values : goal.decreases-part_values
decreases-part_values l = 2 * depth l.a.now + 1

abbrev pub decreases-part_items : goal.decreases-part_items
decreases-part_items l = 2 * greatest (map depth l.vs.now) + 2

abbrev pub decreases-part_fields : goal.decreases-part_fields
decreases-part_fields l = 2 * greatest (map (λ f. depth f.value) l.fs.now) + 2
