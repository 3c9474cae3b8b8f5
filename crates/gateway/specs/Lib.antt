-- What the contracts of `gateway` cite, and SavedCalls, of which the theorems speak. A reviewer reads the specs of `layout`, then Interface and SavedCalls.
pub mod Interface
pub mod SavedCalls
