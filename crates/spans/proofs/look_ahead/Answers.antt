use Rattle.std.proofs.Common.{rules, ◌≡◌, ◌<◌, get_or, sym, ap, ◌∙◌, subst, arith}
use Rattle.std.specs.Prelude.{Err}
use Rattle.spans.specs.Spans.{span_of}
use Rattle.image.specs.declared.fetch.InBody.{InBody}
use Rattle.image.proofs.Fetches.{fetch_none}
use Rattle.spans.proofs.Spans.{fetchable_says, ahead_denied, ahead_nothing, ahead_first}
use Rattle.spans.proofs.look_ahead.Goals as goal

pub returns-then-rest-eq0 : goal.returns-then-rest-eq0
returns-then-rest-eq0 c =
    let h = sym c.in_ok-check_access.was ∙ (rw c.as_address.ensures at c.check_access.ensures) in
    let n = sym (ap (λ (x : InBody). x.rest.records) c.rest_guided-found.ensures) ∙ c.if-rest-eq0.true in
    ahead_nothing _ _ _ h (fetch_none _ _ n)

pub fetchable-n-requires : goal.fetchable-n-requires
fetchable-n-requires c = (sym (rw c.as_address.ensures at c.check_access.ensures) ∙ c.in_ok-check_access.was, omega (arith, c.if-rest-eq0.false))

pub span_of-requires : goal.span_of-requires
span_of-requires c =
    let a = c.args in
    let n : 0 < c.rest_guided-found.result.rest.records = omega (arith, c.if-rest-eq0.false) in
    let w = fetchable_says a.core.now a.ranges.now _ _ n (sym (rw c.as_address.ensures at c.check_access.ensures) ∙ c.in_ok-check_access.was) in
    let l = w.within in
    (c.requires.0, c.rest_guided-found.ensures, n, omega (arith, c.fetchable-n.ensures))

pub returns-in_err-check_access : goal.returns-in_err-check_access
returns-in_err-check_access c =
    let p : c.from_residual.result ≡ Err c.in_err-check_access.field-0.0 = search rules in
    rw p (ahead_denied _ _ _ _ (sym c.in_err-check_access.was ∙ (rw c.as_address.ensures at c.check_access.ensures)))

pub returns : goal.returns
returns c =
    let a = c.args in
    let p = c.requires in
    let h = rw c.as_address.ensures at c.check_access.ensures in
    let t = c.in_ok-check_access.was in
    let e = c.rest_guided-found.ensures in
    let n : 0 < c.rest_guided-found.result.rest.records = omega (arith, c.if-rest-eq0.false) in
    let m = subst (λ (x : InBody). 0 < x.rest.records) e n in
    let l = rw e at c.fetchable-n.ensures in
    let s = c.span_of.ensures ∙ ap (span_of a.image.now a.guide.long (get_or a.core.now 0 0)) l in
    (ahead_first a.image.now a.core.now a.ranges.now a.guide.long _ p.0 p.1.all_long (sym h ∙ t) m s, s)
