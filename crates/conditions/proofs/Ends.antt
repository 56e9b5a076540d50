-- What the end of the text settles. Assumes nothing.
use Rattle.std.proofs.Common.{◌≡◌, ℕ, ◌<◌, ◌≤◌, List, [], length, drop, sym, ap, ◌∙◌, subst, ⊎_elim, arith, length-drop}
use Rattle.std.proofs.lemmas.List.{drop_all}
use Rattle.cpog.specs.declared.refusal.Refusal.{Refusal}
use Rattle.conditions.specs.declared.nodes.Node.{Node}
use Rattle.conditions.specs.declared.source.Read.{Read}
use Rattle.conditions.specs.Grammar.{conditions, Tree, spelling, Spells, Only}
use Rattle.conditions.proofs.Naming.{Names}
use Rattle.conditions.specs.Reading.{Parsed}
use Rattle.conditions.specs.Verdicts.{Refused, Exceeds}
use Rattle.conditions.proofs.Steps.{further}
use Rattle.conditions.proofs.Trees.{unique}

-- a text has at most one tree
same_tree : {names text : List ℕ} {a b : Tree conditions} → Names names → Spells names text a → Spells names text b → a ≡ b
same_tree {names} {text} {a} {b} d p q = (unique names d a b [] [] p.over q.over (omega arith, omega arith) (omega arith, omega arith) (sym p.spelled ∙ q.spelled)).0

module _ {names text : List ℕ} {old new : List Node} {r : Read} (d : Names names) (short : length text ≤ 64) (p : Parsed conditions names text 0 old new r) where
  pub ended : length text ≤ r.next → Only names text p.tree
  ended h =
      let s : Spells names text p.tree = record {
        some = omega (arith, further p, p.within);
        short = short;
        over = p.over;
        spelled = p.spelled ∙ ap (spelling names p.tree) (drop_all r.next text h);
      } in
      record { spells = s; only = λ other q. same_tree d q s }

  pub not_ended : r.next < length text → (tree : Tree conditions) → ¬ Spells names text tree
  not_ended h tree q =
      let u = unique names d p.tree tree (drop r.next text) [] p.over q.over p.stops (omega arith, omega arith) (sym p.spelled ∙ q.spelled) in
      omega (arith, ap length u.1, length-drop r.next text)

  pub exceeded : (e : Refusal) → length text ≤ r.next → Exceeds r.depth (length new) e → Refused names text old e
  exceeded e h =
      ⊎_elim
      (λ x. subst (λ (e : Refusal). Refused names text old e) (sym x.0) (record { tree = p.tree; spells = ended h; deep = omega (arith, p.deep, x.1) }))
      (λ x. subst (λ (e : Refusal). Refused names text old e) (sym x.0) (record {
        tree = p.tree;
        spells = ended h;
        shallow = omega (arith, p.deep, x.1);
        many = omega (arith, p.sized, x.2);
      }))
