use Rattle.std.proofs.Common.{◌≡◌, ◌<◌, ◌∙◌, ℕ, List, length, slice_get, Some, ap, sym, subst}
use Rattle.std.proofs.lemmas.Option.{slice_get_within}
use Rattle.behaviour_tree.specs.declared.definitions.Process.{Process}
use Rattle.process_checks.specs.Calls.{call_sites_of}
use Rattle.process_checks.specs.declared.calls.CallSite.{CallSite}
use Rattle.process_checks.proofs.CodeLemmas.{SiteThere, same_process, same_site, site_there}
use Rattle.process_checks.proofs.ranking.place_of.Goals as goal

pub index-requires-2 : goal.index-requires-2
index-requires-2 c =
    let there : SiteThere c.args.spec.now.processes.items c.args.process c.args.position =
    site_there c.args.spec.now.processes.items c.args.process c.args.position c.requires.0 c.requires.1 in
    let same : c.index.result.now ≡ there.caller =
    same_process c.args.spec.now.processes.items c.args.process there.caller c.index.result.now there.found c.index.ensures in
    let calls : c.in_ok-calls.calls.items ≡ call_sites_of there.caller.body =
    c.in_ok-calls.ensures ∙ ap (λ (p : Process). call_sites_of p.body) same in
    let within : c.args.position < length (call_sites_of there.caller.body) =
    slice_get_within (call_sites_of there.caller.body) c.args.position there.site there.stands in
    subst (λ (n : ℕ). c.args.position < n) (ap (λ (sites : List CallSite). length sites) (sym calls) ∙ sym c.in_ok-calls.calls.ok.0) within

pub returns : goal.returns
returns c =
    let there : SiteThere c.args.spec.now.processes.items c.args.process c.args.position =
    site_there c.args.spec.now.processes.items c.args.process c.args.position c.requires.0 c.requires.1 in
    let same : c.index.result.now ≡ there.caller =
    same_process c.args.spec.now.processes.items c.args.process there.caller c.index.result.now there.found c.index.ensures in
    let calls : c.in_ok-calls.calls.items ≡ call_sites_of there.caller.body =
    c.in_ok-calls.ensures ∙ ap (λ (p : Process). call_sites_of p.body) same in
    let stands : slice_get c.in_ok-calls.calls.items c.args.position ≡ Some there.site =
    ap (λ (sites : List CallSite). slice_get sites c.args.position) calls ∙ there.stands in
    let site : c.index-2.result.now ≡ there.site =
    same_site c.in_ok-calls.calls.items c.args.position there.site c.index-2.result.now stands c.index-2.ensures in
    record {
      caller = there.caller;
      found = there.found;
      site = there.site;
      stands = there.stands;
      placed = ap (λ (s : CallSite). s.place) (sym site);
    }
