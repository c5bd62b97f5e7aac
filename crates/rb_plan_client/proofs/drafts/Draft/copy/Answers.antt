use Rattle.std.proofs.Common.{◌≡◌, ℕ, Option, sym, ap, ◌∙◌, subst}
use Rattle.rb_plan_client.specs.Draft.{Job, Draft, Planned, IsDraft}
use Rattle.rb_plan_client.specs.declared.drafts.Parts.{Parts}
use Rattle.rb_plan_client.proofs.drafts.Draft.copy.Goals as goal

abbrev made : Job → Option Planned → Option ℕ → Draft
made job answer next = record { job = job; answer = answer; next = next }

same : (a b : Job) (x y : Option Planned) (n m : Option ℕ) (d : Draft) → a ≡ b → x ≡ y → n ≡ m → made b y m ≡ d → made a x n ≡ d
same a b x y n m d job answer next is = (λ i. made (job i) (answer i) (next i)) ∙ is

right : (a b : Job) (x y : Option Planned) (n m : Option ℕ) → a ≡ b → x ≡ y → n ≡ m → IsDraft (made b y m) → IsDraft (made a x n)
right a b x y n m job answer next is = subst (λ (p : Job × Option Planned × Option ℕ). IsDraft (made p.0 p.1 p.2)) (λ i. (sym job i, sym answer i, sym next i)) is

pub invariant_of-result : goal.invariant_of-result
invariant_of-result g c =
    let old = c.self.inside.parts.value in
    let made : c.in_ok-parts.parts.value ≡ record { job = c.in_ok-job.job; answer = c.in_ok-answer.answer; next = c.deref-3.result.now.next } = c.in_ok-parts.ensures.ok in
    right c.in_ok-parts.parts.value.job old.job c.in_ok-parts.parts.value.answer old.answer c.in_ok-parts.parts.value.next old.next
    (ap (λ (p : Parts g.row.A.Denot). p.job) made ∙ c.in_ok-job.ensures ∙ ap (λ (p : Parts g.row.A.Denot). p.job) c.deref.ensures)
    (ap (λ (p : Parts g.row.A.Denot). p.answer) made ∙ c.in_ok-answer.ensures ∙ c.as_ref.ensures.value ∙ ap (λ (p : Parts g.row.A.Denot). p.answer) c.deref-2.ensures)
    (ap (λ (p : Parts g.row.A.Denot). p.next) made ∙ ap (λ (p : Parts g.row.A.Denot). p.next) c.deref-3.ensures)
    c.self.invariant

pub returns : goal.returns
returns g c =
    let old = c.self.inside.parts.value in
    let made : c.in_ok-parts.parts.value ≡ record { job = c.in_ok-job.job; answer = c.in_ok-answer.answer; next = c.deref-3.result.now.next } = c.in_ok-parts.ensures.ok in
    same c.in_ok-parts.parts.value.job old.job c.in_ok-parts.parts.value.answer old.answer c.in_ok-parts.parts.value.next old.next c.args.self.now
    (ap (λ (p : Parts g.row.A.Denot). p.job) made ∙ c.in_ok-job.ensures ∙ ap (λ (p : Parts g.row.A.Denot). p.job) c.deref.ensures)
    (ap (λ (p : Parts g.row.A.Denot). p.answer) made ∙ c.in_ok-answer.ensures ∙ c.as_ref.ensures.value ∙ ap (λ (p : Parts g.row.A.Denot). p.answer) c.deref-2.ensures)
    (ap (λ (p : Parts g.row.A.Denot). p.next) made ∙ ap (λ (p : Parts g.row.A.Denot). p.next) c.deref-3.ensures)
    c.self.view_is
