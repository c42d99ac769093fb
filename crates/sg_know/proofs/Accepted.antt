-- What accepted graphs owe of variables, and what is refused.
use Rattle.std.proofs.Common.{◌≡◌, true, false, [], ◌∷◌, ◌++◌, refl, sym, ◌∙◌, ap, subst}
use Rattle.std.specs.Prelude.{Result, Ok, Err, IfErr, OnOk}
use Rattle.std.proofs.lemmas.Bool.{true_from_ne_false}
use Rattle.sg_model.specs.Lists.{is_in}
use Rattle.sg_model.specs.Shape.{Walk, sender}
use Rattle.sg_protocol.specs.Graph.{Graph, shape, writers}
use Rattle.sg_protocol.specs.Knowledge.{knows}
use Rattle.sg_know.specs.declared.fault.ReadFault.{ReadFault}
use Rattle.sg_know.specs.declared.fault.ReadFault.TheVariants.{NotWriter, ReadsOwn, BadRead, OutOfMemory}
use Rattle.sg_know.specs.Reads.{AcceptedReads, HasBadRead, IsFirstFault, IsNotWriter, IsNowhere, IsReadsOwn}
use Rattle.sg_know.proofs.First.{last-more, last_split}

-- if no index is wrong, the graph has what accepted graphs owe
pub accepted_reads : (g : Graph) → IsNowhere (IsNotWriter g) → IsNowhere (IsReadsOwn g) → IsNowhere (HasBadRead g) → AcceptedReads g
accepted_reads g one two three = record {
  writers_write = λ e x w. true_from_ne_false (is_in (sender (shape g) e) (writers g x)) (λ f. one e x (w, f));
  others_read = λ e x r own. two e x (r, own);
  reads_known = λ walk e x w r. true_from_ne_false (knows g (sender (shape g) e) x (walk ++ e ∷ []))
      (λ f. three e x (walk ++ e ∷ [], record { from_start = w; last_edge = last-more walk e; is_read = r; unknown = f }));
}

-- of a graph that has it no fault is reported but that memory ran out
pub no_fault : (g : Graph) → AcceptedReads g → (fault : ReadFault) → IsFirstFault g fault → fault ≡ OutOfMemory
no_fault g h (NotWriter e x) f = (let z : true ≡ false = sym (h.writers_write e x f.0.0) ∙ f.0.1 in absurd (cc))
no_fault g h (ReadsOwn e x) f = absurd (h.others_read e x f.1.0.0 f.1.0.1)
no_fault g h (BadRead e x walk) f =
    let bad = f.3 in
    let split = last_split walk e bad.last_edge in
    let known = h.reads_known split.0 e x (subst (Walk (shape g) 0) split.1 bad.from_start) bad.is_read in
    let z : true ≡ false = sym known ∙ ap (knows g (sender (shape g) e) x) (sym split.1) ∙ bad.unknown in
    absurd (cc)
no_fault g h OutOfMemory f = refl

-- of such a graph the answer reports no fault but that memory ran out
pub accepts : (g : Graph) (answer : Result (Unit {0}) ReadFault) → IfErr answer (IsFirstFault g) → AcceptedReads g → IfErr answer (λ fault. fault ≡ OutOfMemory)
accepts g (Ok u) h a = tt
accepts g (Err fault) h a = no_fault g a fault h

-- if the last kind isn't there either, the graph is such a graph
pub is_accepted : (g : Graph) (answer : Result (Unit {0}) ReadFault) → IsNowhere (IsNotWriter g) → IsNowhere (IsReadsOwn g) → OnOk answer (IsNowhere (HasBadRead g)) → OnOk answer (AcceptedReads g)
is_accepted g (Ok u) one two three = accepted_reads g one two three
is_accepted g (Err fault) one two three = tt
