-- What a file of rules keeps where it was read: the names of its blocks are distinct, and each arm of a `GIVEN` leads to a function or predicate variable of its pattern.
use Rattle.std.specs.Prelude.{◌≡◌, ℕ, true, List, Option, Some, map}
use Rattle.kola_values.specs.Sets.{Each}
use Rattle.kola_schema.specs.Schemas.{are_distinct}
use Rattle.kola_term.specs.Terms.{FMeta, PMeta, TermTree, TermF, TermP}
use Rattle.kola_term.specs.Places.{sub_at}
use Rattle.coko_block.specs.Statements.{StmtTree, SSeq, SThen, SElse, SBu, STd, SRepeat, SGiven, StmtTrees, NoStmts, MoreStmts, ArmTrees, NoArms, MoreArms, BlockTree}

abbrev pub block_names : List BlockTree → List (List ℕ)
block_names bs = map (λ (b : BlockTree). b.name) bs

-- a function or predicate variable
abbrev pub IsVariable : Option TermTree → Type 0
IsVariable (Some (TermF (FMeta n))) = Unit {0}
IsVariable (Some (TermP (PMeta n))) = Unit {0}
IsVariable _ = ⊥

-- the path leads to one in the pattern
abbrev pub LeadsToVariable : TermTree → List ℕ → Type 0
LeadsToVariable p q = IsVariable (sub_at p q)

abbrev mutual
  pub ArmsLead : StmtTree → Type 0
  ArmsLead (SSeq ss) = AllLead ss
  ArmsLead (SThen ss) = AllLead ss
  ArmsLead (SElse ss) = AllLead ss
  ArmsLead (SBu s) = ArmsLead s
  ArmsLead (STd s) = ArmsLead s
  ArmsLead (SRepeat s) = ArmsLead s
  ArmsLead (SGiven p as') = LeadIn p as'
  ArmsLead _ = Unit {0}

  pub AllLead : StmtTrees → Type 0
  AllLead NoStmts = Unit {0}
  AllLead (MoreStmts s ss) = ArmsLead s × AllLead ss

  pub LeadIn : TermTree → ArmTrees → Type 0
  LeadIn p NoArms = Unit {0}
  LeadIn p (MoreArms q s as') = LeadsToVariable p q × ArmsLead s × LeadIn p as'

pub record BlocksOk (bs : List BlockTree) : Type 0 where
  pub distinct : are_distinct (block_names bs) ≡ true
  pub arms : Each (λ (b : BlockTree). ArmsLead b.stmt) bs
