use Rattle.kola_bench.proofs.loads.+composed.Given as goal

abbrev pub decreases-composed : goal.decreases-composed
decreases-composed l = l.nodes
