use Rattle.calls.proofs.read.+get_representative_vertex.Given as goal

abbrev pub decreases-get_representative_vertex : goal.decreases-get_representative_vertex
decreases-get_representative_vertex l = l.n
