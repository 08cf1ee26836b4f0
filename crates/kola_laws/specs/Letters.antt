-- The letters that stand for variables and for types in the laws.
use Rattle.std.specs.Prelude.{ℕ, List, codes}
use Rattle.kola_values.specs.Types.{TypeTree, TVar}

abbrev pub f : List ℕ
f = codes "f"

abbrev pub g : List ℕ
g = codes "g"

abbrev pub h : List ℕ
h = codes "h"

abbrev pub k : List ℕ
k = codes "k"

abbrev pub p : List ℕ
p = codes "p"

abbrev pub q : List ℕ
q = codes "q"

abbrev pub r : List ℕ
r = codes "r"

abbrev pub x : List ℕ
x = codes "x"

abbrev pub y : List ℕ
y = codes "y"

abbrev pub a : TypeTree
a = TVar (codes "a")

abbrev pub b : TypeTree
b = TVar (codes "b")

abbrev pub c : TypeTree
c = TVar (codes "c")

abbrev pub d : TypeTree
d = TVar (codes "d")

abbrev pub e : TypeTree
e = TVar (codes "e")
