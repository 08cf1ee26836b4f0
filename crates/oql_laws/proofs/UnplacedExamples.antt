-- Queries without their places, computed.
use Rattle.std.proofs.Common.{◌≡◌, pos, true, [], ◌∷◌, refl, codes}
use Rattle.oql_tree.specs.QueryTrees.{LitInt, LitStr, QueryTree, QName, QLiteral, QSetOf, QPath, QStruct, QFlatten, QSomeMember, QNot, QIntersect, QAnd, QOr, QUnionExcept, QCompare, QExists, QForAll, QSelect, NoLinks, Link, NoSets, SetLink, NoFields, QField, NoRanges, QRange, NoWhere, Where}
use Rattle.oql_tree.specs.declared.query.Sign.TheVariants as sign
use Rattle.oql_laws.specs.Unplaced.{unplaced}

a_select : unplaced (QSelect 4 (QPath 24 (QName 20 (codes "x")) ((codes "a", 24) ∷ (codes "b", 26) ∷ [])) (QRange (codes "x") 31 (QName 36 (codes "A")) (QRange (codes "y") 45 (QFlatten 40 (QName 48 (codes "B"))) NoRanges)) (Where 47 (QCompare 55 sign.Le (QName 53 (codes "x")) (QLiteral 57 (LitInt (pos 3))))))
    ≡ QSelect 0 (QPath 0 (QName 0 (codes "x")) ((codes "a", 0) ∷ (codes "b", 0) ∷ [])) (QRange (codes "x") 0 (QName 0 (codes "A")) (QRange (codes "y") 0 (QFlatten 0 (QName 0 (codes "B"))) NoRanges)) (Where 0 (QCompare 0 sign.Le (QName 0 (codes "x")) (QLiteral 0 (LitInt (pos 3)))))
a_select = refl

chains : unplaced (QOr 9 (QAnd 5 (QName 3 (codes "a")) (Link 5 (QNot 7 (QName 8 (codes "b"))) NoLinks)) (Link 9 (QSomeMember 11 (QIntersect 14 (QName 12 (codes "c")) (Link 14 (QName 15 (codes "d")) NoLinks))) NoLinks))
    ≡ QOr 0 (QAnd 0 (QName 0 (codes "a")) (Link 0 (QNot 0 (QName 0 (codes "b"))) NoLinks)) (Link 0 (QSomeMember 0 (QIntersect 0 (QName 0 (codes "c")) (Link 0 (QName 0 (codes "d")) NoLinks))) NoLinks)
chains = refl

quantifiers : unplaced (QExists 4 (codes "x") (QUnionExcept 9 (QName 7 (codes "S")) (SetLink 9 true (QName 11 (codes "T")) NoSets)) (QForAll 14 (codes "y") (QSetOf 16 ((LitInt (pos 2), 18) ∷ (LitStr (codes "s"), 20) ∷ [])) (QName 22 (codes "p"))))
    ≡ QExists 0 (codes "x") (QUnionExcept 0 (QName 0 (codes "S")) (SetLink 0 true (QName 0 (codes "T")) NoSets)) (QForAll 0 (codes "y") (QSetOf 0 ((LitInt (pos 2), 0) ∷ (LitStr (codes "s"), 0) ∷ [])) (QName 0 (codes "p")))
quantifiers = refl

a_struct : unplaced (QStruct 4 (QField (codes "f") 6 (QName 8 (codes "a")) (QField (codes "g") 10 (QName 12 (codes "b")) NoFields)))
    ≡ QStruct 0 (QField (codes "f") 0 (QName 0 (codes "a")) (QField (codes "g") 0 (QName 0 (codes "b")) NoFields))
a_struct = refl
